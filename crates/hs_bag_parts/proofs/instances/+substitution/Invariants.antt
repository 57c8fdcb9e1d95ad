use Rattle.std.proofs.Common.{◌≡◌, map, take}
use Rattle.hs_pure.specs.Assertion.{assertion_of}
use Rattle.hs_reduction.specs.Instance.{substituted}
use Rattle.hs_bag_parts.specs.Substituting.{substitution}
use Rattle.hs_bag_parts.proofs.instances.+substitution.Given as goal

abbrev pub invariant-substituted_all-loop-p : goal.invariant-substituted_all-loop-p
invariant-substituted_all-loop-p l = map assertion_of l.all ≡ map (λ p. substituted (substitution l.f) l.n (assertion_of p)) (take l.p-index l.ps)
