use Rattle.std.proofs.Common.{◌≡◌, take, false, map}
use Rattle.std.specs.List.{list_any}
use Rattle.hs_pure.specs.Occurs.{is_free}
use Rattle.hs_pure.proofs.pure.+has.Given as goal

abbrev pub invariant-any_has-loop-p : goal.invariant-any_has-loop-p
invariant-any_has-loop-p l = list_any (λ b. b) (map (is_free l.v) (take l.p-index l.ps)) ≡ false
