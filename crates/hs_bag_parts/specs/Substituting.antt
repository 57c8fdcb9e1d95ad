-- What the code substitutes, and where an instance takes a number past 128 bits.
use Rattle.std.specs.Prelude.{ℕ, suc, ◌⊎◌, ℤ, pos, List, [], ◌∷◌, if◌then◌else◌}
use Rattle.hs_pure.specs.declared.var.Var.{Var}
use Rattle.hs_pure.specs.declared.lin.Lin.{Lin}
use Rattle.hs_pure.specs.Stack.{same}
use Rattle.hs_pure.specs.Assertion.{Assertion, truth, eq, lt, le, divides, bag_eq, subset, member, all_of, negation, both, either, exists, forall}
use Rattle.hs_elimination.specs.Linear.{number, single, plus, times}
use Rattle.hs_reduction.specs.Layout.{variable}
use Rattle.hs_reduction.specs.Instance as Instances
use Rattle.hs_reduction.specs.Instance.{itself, instead, Instance, replaced, stated}
use Rattle.hs_bag_parts.specs.Widths.{TimesIsWide, PlusIsWide}
use Rattle.hs_bag_parts.specs.declared.instances.Substitution.{Substitution, fold-Substitution}
use Rattle.hs_bag_parts.specs.declared.instances.Substitution.TheOpen.{Substitution-F}
use Rattle.hs_bag_parts.specs.declared.instances.Way.{Way}
use Rattle.hs_bag_parts.specs.declared.instances.Way.TheVariants.{Replaced, Stated}

abbrev pub substitution_level : Substitution-F (Var → Lin) → Var → Lin
substitution_level (Substitution-F.Term u a) v = if same u v then a.now else single v (pos 1)
substitution_level (Substitution-F.Bound u n outer) v = if same u v then variable n else outer.now v

-- what stands for each variable
abbrev pub substitution : Substitution → Instances.Substitution
substitution = fold-Substitution (Var → Lin) substitution_level

abbrev pub way_of : Way → Instance
way_of Replaced = replaced
way_of Stated = stated

-- ---- width

module _ (f : Instances.Substitution) where
  -- a product or a sum passes 128 bits where the terms are added up
  abbrev pub TermsAreWide : Lin → List (Var × ℤ) → Type 0
  TermsAreWide sum [] = ⊥
  TermsAreWide sum (t ∷ ts) =
      TimesIsWide t.1 (f t.0) ⊎ PlusIsWide sum (times t.1 (f t.0)) ⊎ TermsAreWide (plus sum (times t.1 (f t.0))) ts

  abbrev pub SumIsWide : Lin → Type 0
  SumIsWide a = TermsAreWide (number a.constant) a.terms

-- some sum that is substituted in passes 128 bits
abbrev pub SubstitutedIsWide : Instances.Substitution → ℕ → Assertion → Type 0
SubstitutedIsWide f n truth = ⊥
SubstitutedIsWide f n (eq a b) = SumIsWide f a ⊎ SumIsWide f b
SubstitutedIsWide f n (lt a b) = SumIsWide f a ⊎ SumIsWide f b
SubstitutedIsWide f n (le a b) = SumIsWide f a ⊎ SumIsWide f b
SubstitutedIsWide f n (divides d a) = SumIsWide f a
SubstitutedIsWide f n (bag_eq a b) = ⊥
SubstitutedIsWide f n (subset a b) = ⊥
SubstitutedIsWide f n (member a b) = ⊥
SubstitutedIsWide f n (all_of u b p) = ⊥
SubstitutedIsWide f n (negation p) = SubstitutedIsWide f n p
SubstitutedIsWide f n (both p q) = SubstitutedIsWide f n p ⊎ SubstitutedIsWide f n q
SubstitutedIsWide f n (either p q) = SubstitutedIsWide f n p ⊎ SubstitutedIsWide f n q
SubstitutedIsWide f n (exists u p) = SubstitutedIsWide (instead u (variable n) f) (suc n) p
SubstitutedIsWide f n (forall u p) = SubstitutedIsWide (instead u (variable n) f) (suc n) p

abbrev pub InstanceIsWide : Instance → Var → Lin → ℕ → Assertion → Type 0
InstanceIsWide replaced u a n p = SubstitutedIsWide (instead u a itself) n p
InstanceIsWide stated u a n p = SubstitutedIsWide (instead u (variable n) itself) (suc n) p
