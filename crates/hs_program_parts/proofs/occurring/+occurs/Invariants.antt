use Rattle.std.proofs.Common.{◌≡◌, take, false, map}
use Rattle.std.specs.List.{list_any}
use Rattle.hs_pure.specs.Occurs.{occurs}
use Rattle.hs_program_parts.proofs.occurring.+occurs.Given as goal

abbrev pub invariant-any_occurs-loop-p : goal.invariant-any_occurs-loop-p
invariant-any_occurs-loop-p l = list_any (λ b. b) (map (occurs l.v) (take l.p-index l.ps)) ≡ false
