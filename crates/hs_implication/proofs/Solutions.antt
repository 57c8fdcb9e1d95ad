-- The tests of solutions and implications tell.
use Rattle.std.proofs.Common.{◌≡◌, Bool, true, false, not, ◌&&◌, cond, IsTrue, ◌⊎◌, inl, inr, ◌↔◌, List, [], ◌∷◌, refl, sym, ◌∙◌, subst}
use Rattle.std.specs.List.{All, Contains}
use Rattle.hs_pure.specs.declared.var.Var.{Var}
use Rattle.hs_pure.specs.Assertion.{Assertion, assertion_of}
use Rattle.hs_pure.specs.Stack.{Stack, same, with_value, number_value}
use Rattle.hs_pure.specs.Truth.{IsTrueAt, TrueAt}
use Rattle.hs_pure.specs.Mirror.{is_free_in}
use Rattle.hs_pure.specs.Sums.{LinIsOrdered}
use Rattle.hs_pure.proofs.Agree.{agree}
use Rattle.hs_pure.proofs.Vars.{same-eq, same-refl}
use Rattle.hs_elimination.specs.Ordered.{assertion_sums, AssertionIsOrdered, has_bag_literal}
use Rattle.hs_elimination.specs.Decided.{without_quantifiers, is_true_at}
use Rattle.hs_elimination.proofs.Decided.{tested, simple-without, same-without}
use Rattle.hs_elimination.proofs.Order.{order_is, All-both}
use Rattle.hs_elimination.proofs.Stage3.{contains_cases, contains_none}
use Rattle.hs_pure.specs.declared.pure.Pure.{Pure}
use Rattle.hs_pure.specs.Occurs.{is_bags_plain}
use Rattle.hs_truth.specs.Laws.{PlainTruthIsDecided}
use Rattle.hs_reduction.specs.Layout.{bags_plain}
use Rattle.hs_reduction.specs.Reduction.{bagless}
use Rattle.hs_reduction.specs.Laws.{BaglessIsExact, BaglessHasNoBags, BaglessIsOrdered, BagsPlainIsOfAssertion}
use Rattle.hs_decide.specs.Question.{question}
use Rattle.hs_plain.specs.Variables.{free_variables}
use Rattle.hs_plain.specs.Span.{zeros}
use Rattle.hs_plain.proofs.Free.{free_in}
use Rattle.hs_implication.proofs.Numbers.{test-alike}
use Rattle.hs_implication.specs.Implied.{for_some, has_numbers, is_satisfiable, is_implied, SolutionsAreTold, ImplicationsAreTold}

-- ---- the test of one stack

module _ (p : Assertion) (none : has_bag_literal p ≡ false) (order : AssertionIsOrdered p) where
  tested_at : (s : Stack) → IsTrueAt s p ↔ IsTrue (is_true_at s p)
  tested_at s =
      let t = tested s (without_quantifiers p) (simple-without p none) in
      let e = same-without p none order s in
      (λ h. t.0 (e.1 h), λ h. e.0 (t.1 h))

  -- truth reads no bags
  numbers_alone : (s t : Stack) → ((v : Var) → (s v).number ≡ (t v).number) → IsTrueAt s p → IsTrueAt t p
  numbers_alone s t alike h = (tested_at t).1 (sym (test-alike s t alike (without_quantifiers p)) ∙ (tested_at s).0 h)

-- ---- some values

bags-for_some : (vs : List Var) (p : Assertion) → has_bag_literal (for_some vs p) ≡ has_bag_literal p
bags-for_some [] p = refl
bags-for_some (v ∷ vs) p = bags-for_some vs p

sums-for_some : (vs : List Var) (p : Assertion) → assertion_sums (for_some vs p) ≡ assertion_sums p
sums-for_some [] p = refl
sums-for_some (v ∷ vs) p = sums-for_some vs p

-- where some values make it true, a stack does
values_in : (vs : List Var) (p : Assertion) (s : Stack) → IsTrueAt s (for_some vs p) → (t : Stack) × IsTrueAt t p
values_in [] p s h = (s, h)
values_in (v ∷ vs) p s h = values_in vs p (with_value v (number_value h.0) s) h.1

-- each variable is worth a number alone
abbrev HasNumbers : Stack → Type 0
HasNumbers t = (v : Var) → t v ≡ number_value (t v).number

different : {A : Type 0} (v w : Var) → v ≡ w → same v w ≡ false → A
different v w is e = let t : same v w ≡ true = subst (λ (x : Var). same v x ≡ true) is (same-refl v) in absurd cc

-- with the value of v, two stacks agree on what is not among the later ones
agree_after : (v : Var) (vs : List Var) (t u : Stack) (w : Var) → HasNumbers t → Contains (v ∷ vs) w ⊎ (t w ≡ u w) →
    Contains vs w ⊎ (t w ≡ with_value v (number_value (t v).number) u w)
agree_after v vs t u w numbers h = by_test (same v w) refl h
  where
    own : v ≡ w → t w ≡ number_value (t v).number
    own e = subst (λ (x : Var). t x ≡ number_value (t v).number) e (numbers v)

    by_test : (b : Bool) → same v w ≡ b → Contains (v ∷ vs) w ⊎ (t w ≡ u w) → Contains vs w ⊎ (t w ≡ cond b (number_value (t v).number) (u w))
    by_test true e k = inr (own (same-eq v w e))
    by_test false e (inr k) = inr k
    by_test false e (inl k) = elim (contains_cases v w vs k) [ inl is ↦ different v w is e | inr later ↦ inl later ]

-- where a stack makes it true, its values do
values_out : (vs : List Var) (p : Assertion) (t u : Stack) → HasNumbers t → ((w : Var) → IsTrue (is_free_in w p) → Contains vs w ⊎ (t w ≡ u w)) →
    IsTrueAt t p → IsTrueAt u (for_some vs p)
values_out [] p t u numbers near h = agree p t u (λ w free. elim (near w free) [ inl k ↦ contains_none w k | inr e ↦ e ]) h
values_out (v ∷ vs) p t u numbers near h =
    ((t v).number, values_out vs p t (with_value v (number_value (t v).number) u) numbers (λ w free. agree_after v vs t u w numbers (near w free)) h)

-- ---- solutions

module _ (p : Assertion) (none : has_bag_literal p ≡ false) (order : AssertionIsOrdered p) where
  told_at_zeros : IsTrueAt zeros (for_some (free_variables p) p) ↔ IsTrue (has_numbers p)
  told_at_zeros =
      tested_at (for_some (free_variables p) p) (bags-for_some (free_variables p) p ∙ none)
      (subst (All LinIsOrdered) (sym (sums-for_some (free_variables p) p)) order) zeros

  numbers_told : IsTrue (has_numbers p) ↔ ((s : Stack) × IsTrueAt s p)
  numbers_told = (λ h. values_in (free_variables p) p zeros (told_at_zeros.1 h), λ h. told_at_zeros.0 (bound h.0 h.1))
    where
      bound : (s : Stack) → IsTrueAt s p → IsTrueAt zeros (for_some (free_variables p) p)
      bound s h =
          let t : Stack = λ v. number_value (s v).number in
          values_out (free_variables p) p t zeros (λ v. refl) (λ w free. inl (free_in p w none free)) (numbers_alone p none order s t (λ v. refl) h)

-- the laws of the reduction
pub record Reductions : Type 0 where
  pub exact : BaglessIsExact
  pub bags : BaglessHasNoBags
  pub ordered : BaglessIsOrdered
  pub plain : BagsPlainIsOfAssertion
  pub decided : PlainTruthIsDecided

module _ (laws : Reductions) where
  solution_told : (p : Assertion) → IsTrue (bags_plain p) → AssertionIsOrdered p → IsTrue (is_satisfiable p) ↔ ((s : Stack) × IsTrueAt s p)
  solution_told p plain order =
      let t = numbers_told (bagless p) (laws.bags p plain) (laws.ordered p order) in
      let e = laws.exact p plain order in
      (λ h. e.1 (t.0 h), λ h. t.1 (e.0 h))

  plain_of : (p : Pure) → IsTrue (is_bags_plain p) → IsTrue (bags_plain (assertion_of p))
  plain_of p h = subst IsTrue (laws.plain p) h

  pub solutions_are_told : SolutionsAreTold
  solutions_are_told p plain order = solution_told (assertion_of p) (plain_of p plain) ((order_is p).0 order)

-- ---- implications

both_plain : (a b : Bool) → IsTrue a → IsTrue b → IsTrue (a && b)
both_plain a b e f = rw (e, f) refl

not_told : {A : Type 0} (b : Bool) → IsTrue b ↔ A → IsTrue (not b) ↔ (¬ A)
not_told true t = (λ h. absurd cc, λ h. absurd (h (t.0 refl)))
not_told false t = (λ h x. let e : false ≡ true = t.1 x in cc, λ h. refl)

pub implications_are_told : Reductions → ImplicationsAreTold
implications_are_told laws a b plain_left plain_right order_left order_right = (λ h. forth (told.0 h), λ h. told.1 (back h))
  where
    told : IsTrue (is_implied a b) ↔ (¬ ((s : Stack) × IsTrueAt s (question (assertion_of a) (assertion_of b))))
    told =
        let plain = both_plain (bags_plain (assertion_of a)) (bags_plain (assertion_of b)) (plain_of laws a plain_left) (plain_of laws b plain_right) in
        let order = All-both LinIsOrdered (assertion_sums (assertion_of a)) (assertion_sums (assertion_of b)) ((order_is a).0 order_left) ((order_is b).0 order_right) in
        not_told (is_satisfiable (question (assertion_of a) (assertion_of b))) (solution_told laws (question (assertion_of a) (assertion_of b)) plain order)

    forth : (¬ ((s : Stack) × IsTrueAt s (question (assertion_of a) (assertion_of b)))) → (s : Stack) → TrueAt s a → TrueAt s b
    forth none s h = elim (laws.decided s b plain_right order_right) [ inl right ↦ right | inr wrong ↦ absurd (none (s, (h, wrong))) ]

    back : ((s : Stack) → TrueAt s a → TrueAt s b) → ¬ ((s : Stack) × IsTrueAt s (question (assertion_of a) (assertion_of b)))
    back all w = w.1.1 (all w.0 w.1.0)
