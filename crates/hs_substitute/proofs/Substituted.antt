-- A substitution gives the variable the value of the sum.
use Rattle.std.proofs.Common.{◌≡◌, ◌↔◌, inl, inr, Bool, true, false, IsTrue, refl, sym, ap, ◌∙◌, List, [], ◌∷◌, ℤ, ◌+ℤ◌, ◌*ℤ◌, ◌<ℤ◌, ◌≤ℤ◌, ◌&&◌}
use Rattle.hs_pure.specs.declared.var.Var.{Var}
use Rattle.hs_pure.specs.declared.lin.Lin.{Lin}
use Rattle.hs_pure.specs.Assertion.{Assertion, truth, eq, lt, le, divides, bag_eq, subset, member, all_of, negation, both, either, exists, forall}
use Rattle.hs_pure.specs.Stack.{Stack, with_value, number_value}
use Rattle.hs_pure.specs.Truth as Truth
use Rattle.hs_pure.specs.Truth.{IsTrueAt}
use Rattle.hs_elimination.specs.Cases.{substitute_lin}
use Rattle.hs_elimination.specs.Linear.{place}
use Rattle.hs_elimination.specs.Normal.{is_simple}
use Rattle.hs_elimination.specs.Ordered.{AssertionIsOrdered}
use Rattle.hs_elimination.proofs.Meaning.{Assignment, RisesFrom, HasRising, assign, sum_at, value}
use Rattle.hs_elimination.proofs.Stacks.{AgreeAt, numbers, value-is, with_value-agree}
use Rattle.hs_elimination.proofs.Order.{rising-ordered}
use Rattle.hs_elimination.proofs.Values.{value-substitute}
use Rattle.hs_substitute.specs.Substitution.{substituted}

and_first : (a b : Bool) → (a && b) ≡ true → a ≡ true
and_first true b h = refl
and_first false b h = absurd cc

and_second : (a b : Bool) → (a && b) ≡ true → b ≡ true
and_second true b h = h
and_second false b h = absurd cc

sum-agree : (s t : Assignment) → AgreeAt s t → (ts : List (Var × ℤ)) → sum_at s ts ≡ sum_at t ts
sum-agree s t h [] = refl
sum-agree s t h (e ∷ es) = λ i. e.1 *ℤ h e.0 i +ℤ sum-agree s t h es i

value-agree : (s t : Assignment) → AgreeAt s t → (a : Lin) → value s a ≡ value t a
value-agree s t h a = ap (λ z. z +ℤ a.constant) (sum-agree s t h a.terms)

module _ (s : Stack) (x : Var) (u : Lin) where
  abbrev after : Stack
  after = with_value x (number_value (Truth.value s u)) s

  -- the value of a sum after the substitution
  value-put : (a : Lin) → RisesFrom 0 a.terms → Truth.value s (substitute_lin (place x) u a) ≡ Truth.value after a
  value-put a r =
      value-is s (substitute_lin (place x) u a)
      ∙ value-substitute (numbers s) (place x) u a r
      ∙ ap (λ y. value (assign (numbers s) (place x) y) a) (sym (value-is s u))
      ∙ sym (value-agree (numbers after) (assign (numbers s) (place x) (Truth.value s u)) (with_value-agree s x (Truth.value s u)) a)
      ∙ sym (value-is after a)

  of_two : (R : ℤ → ℤ → Type 0) (a b : Lin) → RisesFrom 0 a.terms → RisesFrom 0 b.terms → R (Truth.value s (substitute_lin (place x) u a)) (Truth.value s (substitute_lin (place x) u b)) ↔ R (Truth.value after a) (Truth.value after b)
  of_two R a b ra rb = rw (value-put a ra, value-put b rb) (λ p. p, λ p. p)

  keeps : (p : Assertion) → is_simple p ≡ true → HasRising p → IsTrueAt s (substituted (place x) u p) ↔ IsTrueAt after p
  keeps truth h r = (λ p. p, λ p. p)
  keeps (eq a b) h r = of_two (λ m n. m ≡ n) a b r.0 r.1
  keeps (lt a b) h r = of_two (λ m n. m <ℤ n) a b r.0 r.1
  keeps (le a b) h r = of_two (λ m n. m ≤ℤ n) a b r.0 r.1
  keeps (divides d a) h r = rw (value-put a r) (λ p. p, λ p. p)
  keeps (bag_eq a b) h r = absurd cc
  keeps (subset a b) h r = absurd cc
  keeps (member a b) h r = absurd cc
  keeps (all_of v b p) h r = absurd cc
  keeps (negation p) h r = let ih = keeps p h r in (λ n q. n (ih.1 q), λ n q. n (ih.0 q))
  keeps (both p q) h r =
      let ip = keeps p (and_first _ _ h) r.0 in
      let iq = keeps q (and_second _ _ h) r.1 in (λ t. (ip.0 t.0, iq.0 t.1), λ t. (ip.1 t.0, iq.1 t.1))
  keeps (either p q) h r =
      let ip = keeps p (and_first _ _ h) r.0 in
      let iq = keeps q (and_second _ _ h) r.1 in
      (λ t. elim t [ inl a ↦ inl (ip.0 a) | inr b ↦ inr (iq.0 b) ], λ t. elim t [ inl a ↦ inl (ip.1 a) | inr b ↦ inr (iq.1 b) ])
  keeps (exists v p) h r = absurd cc
  keeps (forall v p) h r = absurd cc

pub substitution_keeps : (x : Var) (u : Lin) (p : Assertion) → IsTrue (is_simple p) → AssertionIsOrdered p → (s : Stack)
    → IsTrueAt s (substituted (place x) u p) ↔ IsTrueAt (with_value x (number_value (Truth.value s u)) s) p
substitution_keeps x u p h o s = keeps s x u p h (rising-ordered p o)
