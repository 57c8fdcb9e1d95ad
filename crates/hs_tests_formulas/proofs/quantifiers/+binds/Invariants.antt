use Rattle.std.proofs.Common.{◌≡◌, take, false, map}
use Rattle.std.specs.List.{list_any}
use Rattle.hs_tests_formulas.specs.Binding.{binds}
use Rattle.hs_tests_formulas.proofs.quantifiers.+binds.Given as goal

abbrev pub invariant-any_binds-loop-p : goal.invariant-any_binds-loop-p
invariant-any_binds-loop-p l = list_any (λ b. b) (map binds (take l.p-index l.ps)) ≡ false
