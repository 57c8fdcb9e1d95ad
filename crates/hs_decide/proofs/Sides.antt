-- A question without its quantifiers, and what is found of it.
use Rattle.std.proofs.Common.{◌≡◌, Bool, true, false, ◌&&◌, ◌||◌, refl, sym, ◌∙◌, subst}
use Rattle.hs_pure.specs.declared.pure.Pure.{Pure}
use Rattle.hs_pure.specs.declared.valuation.Valuation.{Valuation}
use Rattle.hs_pure.specs.Assertion.{Assertion, truth, eq, lt, le, divides, bag_eq, subset, member, all_of, negation, both, either, exists, forall, assertion_of}
use Rattle.hs_pure.specs.Eval.{stack_of}
use Rattle.hs_pure.specs.Occurs.{has_bags}
use Rattle.hs_pure.specs.Stack.{Stack}
use Rattle.hs_pure.specs.Sums.{IsOrdered}
use Rattle.hs_pure.specs.Truth.{TrueAt}
use Rattle.hs_elimination.specs.Ordered.{has_bag_literal}
use Rattle.hs_elimination.specs.Normal.{is_simple}
use Rattle.hs_elimination.specs.Decided.{without_quantifiers}
use Rattle.hs_elimination.proofs.Order.{bags_are}
use Rattle.hs_elimination.proofs.Decided.{simple-without}
use Rattle.hs_plain.proofs.Questions.{true-question, true-without}
use Rattle.hs_equations.specs.declared.finding.Finding.{Finding}
use Rattle.hs_equations.specs.declared.finding.Finding.TheVariants.{Implied, Refuted, Open}
use Rattle.hs_equations.specs.Finding.{IfRefuted, IsCounter}

-- ---- findings

pub refuted_map : (P Q : Valuation → Type 0) → ((v : Valuation) → P v → Q v) → (r : Finding) → IfRefuted r P → IfRefuted r Q
refuted_map P Q f Implied h = tt
refuted_map P Q f (Refuted v) h = f v h
refuted_map P Q f Open h = tt

-- ---- bag literals

and_left : (a b : Bool) → a && b ≡ true → a ≡ true
and_left true b h = refl
and_left false b h = absurd cc

and_right : (a b : Bool) → a && b ≡ true → b ≡ true
and_right true b h = h
and_right false b h = absurd cc

neither : (a b : Bool) → a ≡ false → b ≡ false → (a || b) ≡ false
neither true b h k = absurd cc
neither false b h k = k

simple-literals : (p : Assertion) → is_simple p ≡ true → has_bag_literal p ≡ false
simple-literals truth h = refl
simple-literals (eq a b) h = refl
simple-literals (lt a b) h = refl
simple-literals (le a b) h = refl
simple-literals (divides d a) h = refl
simple-literals (bag_eq a b) h = absurd cc
simple-literals (subset a b) h = absurd cc
simple-literals (member a b) h = absurd cc
simple-literals (all_of u b p) h = absurd cc
simple-literals (negation p) h = simple-literals p h
simple-literals (both p q) h = neither _ _ (simple-literals p (and_left _ _ h)) (simple-literals q (and_right _ _ h))
simple-literals (either p q) h = neither _ _ (simple-literals p (and_left _ _ h)) (simple-literals q (and_right _ _ h))
simple-literals (exists u p) h = absurd cc
simple-literals (forall u p) h = absurd cc

pub bags-without : (q r : Pure) → has_bags q ≡ false → assertion_of r ≡ without_quantifiers (assertion_of q) → has_bags r ≡ false
bags-without q r bags exact =
    bags_are r ∙ subst (λ a. has_bag_literal a ≡ false) (sym exact) (simple-literals (without_quantifiers (assertion_of q)) (simple-without (assertion_of q) (sym (bags_are q) ∙ bags)))

-- ---- both sides

module _ (a b : Pure) (a_bags : has_bags a ≡ false) (b_bags : has_bags b ≡ false) (a_order : IsOrdered a) (b_order : IsOrdered b) where
  module _ (l r : Pure) (left : assertion_of l ≡ without_quantifiers (assertion_of a)) (right : assertion_of r ≡ without_quantifiers (assertion_of b)) where
    pub implied_without : ((s : Stack) → TrueAt s l → TrueAt s r) → (s : Stack) → TrueAt s a → TrueAt s b
    implied_without f s h = true-question b r b_bags right b_order s (f s (true-without a l a_bags left a_order s h))

    pub counter_without : (v : Valuation) → IsCounter l r v → IsCounter a b v
    counter_without v h = (true-question a l a_bags left a_order (stack_of v) h.0, λ k. h.1 (true-without b r b_bags right b_order (stack_of v) k))
