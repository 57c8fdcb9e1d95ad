-- Without quantifiers no variable is new, and what is known of the formula without them is known of the formula.
use Rattle.std.proofs.Common.{◌≡◌, ℕ, ◌<◌, Bool, true, false, not, ◌&&◌, ◌||◌, IsTrue, List, inr, refl, sym, ◌∙◌, subst}
use Rattle.std.specs.List.{Contains}
use Rattle.hs_pure.specs.declared.var.Var.{Var}
use Rattle.hs_pure.specs.declared.pure.Pure.{Pure}
use Rattle.hs_pure.specs.Assertion.{Assertion, truth, eq, lt, le, divides, bag_eq, subset, member, all_of, negation, both, either, exists, forall, assertion_of}
use Rattle.hs_pure.specs.Mirror.{is_free_in}
use Rattle.hs_pure.specs.Occurs.{has_bags}
use Rattle.hs_pure.specs.Stack.{Stack, same}
use Rattle.hs_pure.specs.Sums.{IsOrdered}
use Rattle.hs_pure.specs.Truth.{IsTrueAt, TrueAt}
use Rattle.hs_pure.proofs.Vars.{same-eq}
use Rattle.hs_elimination.specs.Ordered.{has_bag_literal}
use Rattle.hs_elimination.specs.Normal.{is_simple}
use Rattle.hs_elimination.specs.Elimination.{without_variable}
use Rattle.hs_elimination.specs.Decided.{without_quantifiers}
use Rattle.hs_elimination.proofs.Order.{order_is, bags_are, lacks-without_variable, adds_none}
use Rattle.hs_elimination.proofs.Decided.{simple-without, same-without}
use Rattle.hs_quantifiers.specs.Size.{quantifier_size}
use Rattle.hs_quantifiers.proofs.Stages.{max_right}
use Rattle.hs_plain.specs.Variables.{free_variables}
use Rattle.hs_plain.specs.Size.{chain_size, plain_size}
use Rattle.hs_plain.specs.Span.{plain_stack, plain_values, HasWideChain, PlainIsWide}
use Rattle.hs_plain.proofs.Free.{free_in}
use Rattle.hs_plain.proofs.Chain.{Named}

-- ---- without quantifiers, no variable is new

either_false_left : (a b : Bool) → (a || b) ≡ false → a ≡ false
either_false_left true b h = absurd cc
either_false_left false b h = refl

either_false_right : (a b : Bool) → (a || b) ≡ false → b ≡ false
either_false_right true b h = absurd cc
either_false_right false b h = h

or_mono : (a b c d : Bool) → (a ≡ true → c ≡ true) → (b ≡ true → d ≡ true) → (a || b) ≡ true → (c || d) ≡ true
or_mono true b c d f g h = rw (f refl) refl
or_mono false b true d f g h = refl
or_mono false b false d f g h = g h

-- below a quantifier
kept_free : (u v : Var) (p q : Assertion) → IsTrue (is_simple q) → (is_free_in v q ≡ true → is_free_in v p ≡ true) → is_free_in v (without_variable u q) ≡ true → (not (same u v) && is_free_in v p) ≡ true
kept_free u v p q simple ih h = by_test (same u v) refl
  where
    by_test : (b : Bool) → same u v ≡ b → (not b && is_free_in v p) ≡ true
    by_test true e = let gone : is_free_in v (without_variable u q) ≡ false = subst (λ w. is_free_in w (without_variable u q) ≡ false) (same-eq u v e) (lacks-without_variable u q) in absurd cc
    by_test false e = ih (adds_none u q v simple h)

free-without : (v : Var) (p : Assertion) → has_bag_literal p ≡ false → is_free_in v (without_quantifiers p) ≡ true → is_free_in v p ≡ true
free-without v truth k h = h
free-without v (eq a b) k h = h
free-without v (lt a b) k h = h
free-without v (le a b) k h = h
free-without v (divides d a) k h = h
free-without v (bag_eq a b) k h = h
free-without v (subset a b) k h = h
free-without v (member a b) k h = h
free-without v (all_of u b p) k h = h
free-without v (negation p) k h = free-without v p k h
free-without v (both p q) k h = or_mono _ _ _ _ (free-without v p (either_false_left _ _ k)) (free-without v q (either_false_right _ _ k)) h
free-without v (either p q) k h = or_mono _ _ _ _ (free-without v p (either_false_left _ _ k)) (free-without v q (either_false_right _ _ k)) h
free-without v (exists u p) k h = kept_free u v p (without_quantifiers p) (simple-without p k) (free-without v p k) h
free-without v (forall u p) k h = kept_free u v p (negation (without_quantifiers p)) (simple-without p k) (free-without v p k) h

-- ---- from the question without quantifiers to the question

module _ (q r : Pure) (bags : has_bags q ≡ false) (exact : assertion_of r ≡ without_quantifiers (assertion_of q)) where
  none_there : has_bag_literal (assertion_of q) ≡ false
  none_there = sym (bags_are q) ∙ bags

  pub named-question : (vs : List Var) → vs ≡ free_variables (assertion_of q) → Named vs (assertion_of r)
  named-question vs is v free =
      subst (λ us. Contains us v) (sym is) (free_in (assertion_of q) v none_there (free-without v (assertion_of q) none_there (subst (λ a. IsTrue (is_free_in v a)) exact free)))

  pub true-question : IsOrdered q → (s : Stack) → TrueAt s r → TrueAt s q
  true-question order s h = (same-without (assertion_of q) none_there ((order_is q).0 order) s).0 (subst (IsTrueAt s) exact h)

  pub true-without : IsOrdered q → (s : Stack) → TrueAt s q → TrueAt s r
  true-without order s h = subst (IsTrueAt s) (sym exact) ((same-without (assertion_of q) none_there ((order_is q).0 order) s).1 h)

  pub plain_values-question : (vs : List Var) → vs ≡ free_variables (assertion_of q) → plain_stack vs (assertion_of r) ≡ plain_values (assertion_of q)
  plain_values-question vs is = λ i. plain_stack (is i) (exact i)

  pub size-question : (n : ℕ) (vs : List Var) → vs ≡ free_variables (assertion_of q) → n < chain_size vs (assertion_of r) → n < plain_size (assertion_of q)
  size-question n vs is h =
      max_right n (quantifier_size (assertion_of q)) (chain_size (free_variables (assertion_of q)) (without_quantifiers (assertion_of q)))
      (subst (λ us. n < chain_size us (without_quantifiers (assertion_of q))) is (subst (λ a. n < chain_size vs a) exact h))

  pub wide-question : (vs : List Var) → vs ≡ free_variables (assertion_of q) → HasWideChain vs (assertion_of r) → PlainIsWide (assertion_of q)
  wide-question vs is h = inr (subst (λ us. HasWideChain us (without_quantifiers (assertion_of q))) is (subst (HasWideChain vs) exact h))
