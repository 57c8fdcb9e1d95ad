use Rattle.std.proofs.Common.{◌≡◌, take, false, map}
use Rattle.std.specs.List.{list_any}
use Rattle.hs_pure.specs.Eval.{has_quantifiers}
use Rattle.hs_tests_formulas.proofs.quantifiers.+has_quantifiers.Given as goal

abbrev pub invariant-any_has-loop-p : goal.invariant-any_has-loop-p
invariant-any_has-loop-p l = list_any (λ b. b) (map has_quantifiers (take l.p-index l.ps)) ≡ false
