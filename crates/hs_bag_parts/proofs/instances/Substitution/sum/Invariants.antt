use Rattle.std.proofs.Common.{◌≡◌, drop}
use Rattle.std.specs.List.{fold}
use Rattle.hs_reduction.specs.Instance.{substituted_lin}
use Rattle.hs_bag_parts.specs.Substituting.{substitution, TermsAreWide, SumIsWide}
use Rattle.hs_bag_parts.proofs.Substitutions.{added}
use Rattle.hs_bag_parts.proofs.instances.Substitution.sum.Given as goal

abbrev pub invariant-loop-t : goal.invariant-loop-t
invariant-loop-t l = record {
  is : fold (added (substitution l.self)) l.sum (drop l.t-index l.t-items) ≡ substituted_lin (substitution l.self) l.a;
  wide : TermsAreWide (substitution l.self) l.sum (drop l.t-index l.t-items) → SumIsWide (substitution l.self) l.a;
}
