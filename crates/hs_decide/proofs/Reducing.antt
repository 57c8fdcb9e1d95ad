-- What the plain reduction of a question says of the question.
use Rattle.std.proofs.Common.{◌≡◌, ℕ, suc, ◌<◌, Bool, true, false, not, ◌&&◌, ◌||◌, IsTrue, List, inl, refl, sym, ap, ◌∙◌, subst, arith}
use Rattle.hs_pure.specs.declared.var.Var.{Var}
use Rattle.hs_pure.specs.declared.pure.Pure.{Pure}
use Rattle.hs_pure.specs.declared.valuation.Valuation.{Valuation}
use Rattle.hs_pure.specs.Assertion.{Assertion, truth, eq, lt, le, divides, bag_eq, subset, member, all_of, negation, both, either, exists, forall, assertion_of}
use Rattle.hs_pure.specs.Eval.{stack_of}
use Rattle.hs_pure.specs.Mirror.{assertion_top, is_free_in}
use Rattle.hs_pure.specs.Occurs.{has_bags, is_bags_plain, top_of}
use Rattle.hs_pure.specs.Stack.{Stack}
use Rattle.hs_pure.specs.Sums.{IsOrdered}
use Rattle.hs_pure.specs.Truth.{IsTrueAt, TrueAt}
use Rattle.hs_pure.proofs.Mirrored.{top_of-is}
use Rattle.hs_elimination.specs.Ordered.{AssertionIsOrdered, has_bag_literal}
use Rattle.hs_elimination.proofs.Order.{order_is, bags_are}
use Rattle.hs_reduction.specs.Layout.{bags_plain, layout}
use Rattle.hs_reduction.specs.Instance.{replaced}
use Rattle.hs_reduction.specs.Reduction.{reduction, bagless}
use Rattle.hs_reduction.specs.Rebuilt.{rebuilt}
use Rattle.hs_reduction.specs.Laws.{BaglessIsExact, BaglessHasNoBags, BaglessIsOrdered, BagsPlainIsOfAssertion, RebuiltBagsMakeTrue}
use Rattle.hs_counts.specs.Counts.{stack_with_counts, HasWideElement, counts_of}
use Rattle.hs_counts.specs.Laws.{RebuiltByCounts}
use Rattle.hs_counts.specs.declared.count.Count.{Count}
use Rattle.hs_counts.specs.declared.count.Reduced.{Reduced}
use Rattle.hs_plain.specs.Span.{plain_values}
use Rattle.hs_bag_parts.specs.Size.{comparisons}
use Rattle.hs_bag.specs.Substituting.{ReductionIsWide}
use Rattle.hs_decide.specs.Size.{size_of}
use Rattle.hs_decide.specs.Span.{ElementIsWide, SpanIsWide}
use Rattle.hs_decide.specs.Reduced.{IsReducedQuestion}
use Rattle.hs_decide.proofs.Comparisons.{many_atoms}

first_false : (a b : Bool) → (a || b) ≡ false → a ≡ false
first_false true b e = absurd cc
first_false false b e = refl

second_false : (a b : Bool) → (a || b) ≡ false → b ≡ false
second_false true b e = absurd cc
second_false false b e = e

pub both_true : (a b : Bool) → IsTrue a → IsTrue b → IsTrue (a && b)
both_true a b e f = rw (e, f) refl

not_false : (a : Bool) → a ≡ false → IsTrue (not a)
not_false a e = rw e refl

-- without bag literals none stands under a quantifier
pub plain-bagless : (p : Assertion) → has_bag_literal p ≡ false → IsTrue (bags_plain p)
plain-bagless truth h = refl
plain-bagless (eq a b) h = refl
plain-bagless (lt a b) h = refl
plain-bagless (le a b) h = refl
plain-bagless (divides d a) h = refl
plain-bagless (bag_eq a b) h = refl
plain-bagless (subset a b) h = refl
plain-bagless (member a b) h = refl
plain-bagless (all_of u b p) h = absurd cc
plain-bagless (negation p) h = plain-bagless p h
plain-bagless (both p q) h = both_true (bags_plain p) (bags_plain q) (plain-bagless p (first_false _ _ h)) (plain-bagless q (second_false _ _ h))
plain-bagless (either p q) h = both_true (bags_plain p) (bags_plain q) (plain-bagless p (first_false _ _ h)) (plain-bagless q (second_false _ _ h))
plain-bagless (exists u p) h = not_false (has_bag_literal p) h
plain-bagless (forall u p) h = not_false (has_bag_literal p) h

-- ---- the plain reduction, from the next number on

module _ (q : Pure) (n : ℕ) (next : n ≡ suc (top_of q)) where
  number_is : n ≡ suc (assertion_top (assertion_of q))
  number_is = next ∙ ap (λ t. suc t) (top_of-is q)

  reduction_is : reduction replaced n (assertion_of q) ≡ bagless (assertion_of q)
  reduction_is = ap (λ m. reduction replaced m (assertion_of q)) number_is

  pub reduced_question : (r : Reduced) → IsTrue (is_bags_plain q) → IsOrdered q → assertion_of r.pure ≡ reduction replaced n (assertion_of q) → r.counts ≡ counts_of (layout n (assertion_of q)) → IsReducedQuestion q r
  reduced_question r h k p cs = record { plain = h; ordered = k; pure = p ∙ reduction_is; counts = cs ∙ ap (λ m. counts_of (layout m (assertion_of q))) number_is }

  pub large_reduction : BagsPlainIsOfAssertion → BaglessHasNoBags → IsTrue (is_bags_plain q) → (atoms : ℕ) → atoms < comparisons (reduction replaced n (assertion_of q)) → ((v : Var) × IsTrue (is_free_in v (reduction replaced n (assertion_of q)))) → atoms < size_of (assertion_of q)
  large_reduction plain none h atoms many free =
      many_atoms atoms (bagless (assertion_of q)) free.0 (none (assertion_of q) (subst IsTrue (plain q) h))
      (subst (λ p. IsTrue (is_free_in free.0 p)) reduction_is free.1) (subst (λ p. atoms < comparisons p) reduction_is many)

  pub wide_reduction : ReductionIsWide replaced n (assertion_of q) → SpanIsWide (assertion_of q)
  wide_reduction h = inl (subst (λ m. ReductionIsWide replaced m (assertion_of q)) number_is h)

-- ---- the reduction of a question

module _ (q : Pure) (r : Reduced) (is : IsReducedQuestion q r) where
  question_plain : BagsPlainIsOfAssertion → IsTrue (bags_plain (assertion_of q))
  question_plain plain = subst IsTrue (plain q) is.plain

  question_ordered : AssertionIsOrdered (assertion_of q)
  question_ordered = (order_is q).0 is.ordered

  pub literals-reduced : BagsPlainIsOfAssertion → BaglessHasNoBags → has_bag_literal (assertion_of r.pure) ≡ false
  literals-reduced plain none = ap has_bag_literal is.pure ∙ none (assertion_of q) (question_plain plain)

  pub bags-reduced : BagsPlainIsOfAssertion → BaglessHasNoBags → has_bags r.pure ≡ false
  bags-reduced plain none = bags_are r.pure ∙ literals-reduced plain none

  pub plain-reduced : BagsPlainIsOfAssertion → BaglessHasNoBags → IsTrue (is_bags_plain r.pure)
  plain-reduced plain none = subst IsTrue (sym (plain r.pure)) (plain-bagless (assertion_of r.pure) (literals-reduced plain none))

  pub ordered-reduced : BaglessIsOrdered → IsOrdered r.pure
  ordered-reduced order = (order_is r.pure).1 (subst AssertionIsOrdered (sym is.pure) (order (assertion_of q) question_ordered))

  -- where the reduction has no solution, the question has none
  pub unsolved : BagsPlainIsOfAssertion → BaglessIsExact → ((s : Stack) → ¬ (TrueAt s r.pure)) → (s : Stack) → ¬ (TrueAt s q)
  unsolved plain exact none s h =
      let w = (exact (assertion_of q) (question_plain plain) question_ordered).0 (s, h) in
      none w.0 (subst (IsTrueAt w.0) (sym is.pure) w.1)

  -- the rebuilt values of a solution of the reduction solve the question
  pub solved : BagsPlainIsOfAssertion → RebuiltBagsMakeTrue → RebuiltByCounts → (v w : Valuation) → TrueAt (stack_of v) r.pure
      → (cs : List Count) → cs ≡ r.counts → stack_of w ≡ stack_with_counts (stack_of v) cs → TrueAt (stack_of w) q
  solved plain makes by_counts v w h cs same e =
      let start = suc (assertion_top (assertion_of q)) in
      let there : IsTrueAt (stack_of v) (reduction replaced start (assertion_of q)) = subst (IsTrueAt (stack_of v)) is.pure h in
      let true' = makes replaced start (assertion_of q) (omega arith) (question_plain plain) (stack_of v) there in
      let stack : stack_of w ≡ rebuilt (layout start (assertion_of q)) (stack_of v) =
      e ∙ ap (stack_with_counts (stack_of v)) (same ∙ is.counts) ∙ by_counts (layout start (assertion_of q)) (stack_of v) in
      subst (λ s. IsTrueAt s (assertion_of q)) (sym stack) true'

  -- an element that is wide at the plain values
  pub wide-element : (v : Valuation) → stack_of v ≡ plain_values (bagless (assertion_of q)) → (cs : List Count) → cs ≡ r.counts → HasWideElement (stack_of v) cs → ElementIsWide (assertion_of q)
  wide-element v e cs same h = subst (λ ds. HasWideElement (plain_values (bagless (assertion_of q))) ds) (same ∙ is.counts) (subst (λ s. HasWideElement s cs) e h)
