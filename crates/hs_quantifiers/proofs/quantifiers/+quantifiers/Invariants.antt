use Rattle.std.proofs.Common.{◌≡◌, map, take}
use Rattle.hs_pure.specs.Assertion.{assertion_of}
use Rattle.hs_elimination.specs.Decided.{without_quantifiers}
use Rattle.hs_quantifiers.proofs.quantifiers.+quantifiers.Given as goal

abbrev pub invariant-all_without-loop-p : goal.invariant-all_without-loop-p
invariant-all_without-loop-p l = map assertion_of l.all ≡ map (λ p. without_quantifiers (assertion_of p)) (take l.p-index l.ps)
