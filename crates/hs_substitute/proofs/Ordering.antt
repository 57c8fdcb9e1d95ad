-- A substitution keeps the order of sums, and adds neither quantifiers nor bag literals.
use Rattle.std.proofs.Common.{◌≡◌, ℕ, suc, zero, ◌+◌, ◌*◌, ◌≤◌, ◌==◌, Bool, true, false, ◌&&◌, IsTrue, cond, List, [], ◌∷◌, refl, ap, ◌∙◌, subst, sym, arith, ℤ, pos, negsuc}
use Rattle.std.specs.List.{All}
use Rattle.std.proofs.lemmas.List.Elements.{All-head, All-nil, All-cons}
use Rattle.hs_pure.specs.declared.var.Var.{Var}
use Rattle.hs_pure.specs.declared.lin.Lin.{Lin}
use Rattle.hs_pure.specs.declared.pure.Pure.{Pure}
use Rattle.hs_pure.specs.Assertion.{Assertion, truth, eq, lt, le, divides, bag_eq, subset, member, all_of, negation, both, either, exists, forall, assertion_of}
use Rattle.hs_pure.specs.Sums as Sums
use Rattle.hs_pure.specs.Sums.{LinIsOrdered, IsOrdered}
use Rattle.hs_pure.proofs.Lists.{All-later}
use Rattle.hs_elimination.specs.Cases.{substitute_by, substitute_lin}
use Rattle.hs_elimination.specs.Linear.{place, coefficient, rest, times, without}
use Rattle.hs_elimination.specs.Normal.{is_simple}
use Rattle.hs_elimination.specs.Ordered.{assertion_sums, AssertionIsOrdered}
use Rattle.hs_elimination.proofs.Meaning.{RisesFrom}
use Rattle.hs_elimination.proofs.Order.{All-before, All-after, All-both, order_is, rising-ordered}
use Rattle.hs_elimination.proofs.Rising.{rises-merge, rises-scale, rises-without}
use Rattle.hs_elimination.proofs.Variables.{Each, each-merge, each-scale}
use Rattle.hs_substitute.specs.Substitution.{substituted}

abbrev Entry : Type 0
Entry = Var × ℤ

-- ---- one sum

suc_not_zero : (n : ℕ) → ¬ (pos (suc n) ≡ pos 0)
suc_not_zero n e = absurd cc

negsuc_not_zero : (n : ℕ) → ¬ (negsuc n ≡ pos 0)
negsuc_not_zero n e = absurd cc

rises-substitute_by : (c : ℤ) (u r : Lin) → RisesFrom 0 u.terms → RisesFrom 0 r.terms → RisesFrom 0 (substitute_by c u r).terms
rises-substitute_by (pos zero) u r h k = k
rises-substitute_by (pos (suc n)) u r h k = rises-merge 0 (times (pos (suc n)) u).terms r.terms (rises-scale 0 (pos (suc n)) u.terms (suc_not_zero n) h) k
rises-substitute_by (negsuc n) u r h k = rises-merge 0 (times (negsuc n) u).terms r.terms (rises-scale 0 (negsuc n) u.terms (negsuc_not_zero n) h) k

-- the terms of the result rise
pub rises-substitute_lin : (x : ℕ) (u a : Lin) → RisesFrom 0 u.terms → RisesFrom 0 a.terms → RisesFrom 0 (substitute_lin x u a).terms
rises-substitute_lin x u a h k = rises-substitute_by (coefficient x a.terms) u (rest x a) h (rises-without 0 x a.terms k)

abbrev IsNumber : Var → Type 0
IsNumber v = v.bag ≡ false

each-without : (x : ℕ) (es : List Entry) → Each IsNumber es → Each IsNumber (without x es)
each-without x [] h = tt
each-without x (e ∷ es) h = by_test (each-without x es h.1) (place e.0 == x)
  where
    by_test : Each IsNumber (without x es) → (b : Bool) → Each IsNumber (cond b (without x es) (e ∷ without x es))
    by_test ih true = ih
    by_test ih false = (h.0, ih)

numbers-substitute_by : (c : ℤ) (u r : Lin) → Each IsNumber u.terms → Each IsNumber r.terms → Each IsNumber (substitute_by c u r).terms
numbers-substitute_by (pos zero) u r h k = k
numbers-substitute_by (pos (suc n)) u r h k = each-merge IsNumber (times (pos (suc n)) u).terms r.terms (each-scale IsNumber (pos (suc n)) u.terms h) k
numbers-substitute_by (negsuc n) u r h k = each-merge IsNumber (times (negsuc n) u).terms r.terms (each-scale IsNumber (negsuc n) u.terms h) k

place-number : (v : Var) → IsNumber v → place v ≡ 2 * v.number
place-number v e = ap (λ k. 2 * v.number + cond k 1 0) e ∙ plus_none (2 * v.number)
  where
    plus_none : (n : ℕ) → n + 0 ≡ n
    plus_none n = omega arith

numbers-of : (n : ℕ) (ts : List Entry) → Sums.RisesFrom n ts → Each IsNumber ts
numbers-of n [] r = tt
numbers-of n (t ∷ ts) r = (r.1, numbers-of (suc t.0.number) ts r.3)

in_order : (n m : ℕ) (ts : List Entry) → 2 * n ≤ m + 1 → RisesFrom m ts → Each IsNumber ts → Sums.RisesFrom n ts
in_order n m [] h r k = tt
in_order n m (t ∷ ts) h r k = let e = place-number t.0 k.0 in let l = r.0 in (omega arith, k.0, r.1, in_order (suc t.0.number) (suc (place t.0)) ts (omega arith) r.2 k.1)

rises_lin : (a : Lin) → LinIsOrdered a → RisesFrom 0 a.terms
rises_lin a h = rising-ordered (divides (pos 1) a) (All-cons LinIsOrdered a [] h (All-nil LinIsOrdered))

ordered-substitute_lin : (x : ℕ) (u a : Lin) → LinIsOrdered u → LinIsOrdered a → LinIsOrdered (substitute_lin x u a)
ordered-substitute_lin x u a h k =
    in_order 0 0 (substitute_lin x u a).terms (omega arith) (rises-substitute_lin x u a (rises_lin u h) (rises_lin a k))
    (numbers-substitute_by (coefficient x a.terms) u (rest x a) (numbers-of 0 u.terms h) (each-without x a.terms (numbers-of 0 a.terms k)))

-- ---- an assertion

module _ (x : ℕ) (u : Lin) (h : LinIsOrdered u) where
  one : (a : Lin) → All LinIsOrdered (a ∷ []) → All LinIsOrdered (substitute_lin x u a ∷ [])
  one a k = All-cons LinIsOrdered (substitute_lin x u a) [] (ordered-substitute_lin x u a h (All-head LinIsOrdered a [] k)) (All-nil LinIsOrdered)

  two : (a b : Lin) → All LinIsOrdered (a ∷ b ∷ []) → All LinIsOrdered (substitute_lin x u a ∷ substitute_lin x u b ∷ [])
  two a b k = All-cons LinIsOrdered (substitute_lin x u a) (substitute_lin x u b ∷ []) (ordered-substitute_lin x u a h (All-head LinIsOrdered a (b ∷ []) k)) (one b (All-later LinIsOrdered a (b ∷ []) k))

  ordered-substituted : (p : Assertion) → AssertionIsOrdered p → AssertionIsOrdered (substituted x u p)
  ordered-substituted truth k = k
  ordered-substituted (eq a b) k = two a b k
  ordered-substituted (lt a b) k = two a b k
  ordered-substituted (le a b) k = two a b k
  ordered-substituted (divides d a) k = one a k
  ordered-substituted (bag_eq a b) k = k
  ordered-substituted (subset a b) k = k
  ordered-substituted (member a b) k = k
  ordered-substituted (all_of v b p) k = k
  ordered-substituted (negation p) k = ordered-substituted p k
  ordered-substituted (both p q) k =
      All-both LinIsOrdered (assertion_sums (substituted x u p)) (assertion_sums (substituted x u q))
      (ordered-substituted p (All-before LinIsOrdered (assertion_sums p) (assertion_sums q) k)) (ordered-substituted q (All-after LinIsOrdered (assertion_sums p) (assertion_sums q) k))
  ordered-substituted (either p q) k =
      All-both LinIsOrdered (assertion_sums (substituted x u p)) (assertion_sums (substituted x u q))
      (ordered-substituted p (All-before LinIsOrdered (assertion_sums p) (assertion_sums q) k)) (ordered-substituted q (All-after LinIsOrdered (assertion_sums p) (assertion_sums q) k))
  ordered-substituted (exists v p) k = k
  ordered-substituted (forall v p) k = k

pub ordered-of : (x : ℕ) (u : Lin) (f r : Pure) → assertion_of r ≡ substituted x u (assertion_of f) → IsOrdered f → LinIsOrdered u → IsOrdered r
ordered-of x u f r e o h = (order_is r).1 (subst AssertionIsOrdered (sym e) (ordered-substituted x u h (assertion_of f) ((order_is f).0 o)))

simple-substituted : (x : ℕ) (u : Lin) (p : Assertion) → is_simple (substituted x u p) ≡ is_simple p
simple-substituted x u truth = refl
simple-substituted x u (eq a b) = refl
simple-substituted x u (lt a b) = refl
simple-substituted x u (le a b) = refl
simple-substituted x u (divides d a) = refl
simple-substituted x u (bag_eq a b) = refl
simple-substituted x u (subset a b) = refl
simple-substituted x u (member a b) = refl
simple-substituted x u (all_of v b p) = refl
simple-substituted x u (negation p) = simple-substituted x u p
simple-substituted x u (both p q) = λ i. simple-substituted x u p i && simple-substituted x u q i
simple-substituted x u (either p q) = λ i. simple-substituted x u p i && simple-substituted x u q i
simple-substituted x u (exists v p) = refl
simple-substituted x u (forall v p) = refl

pub simple-of : (x : ℕ) (u : Lin) (f r : Pure) → assertion_of r ≡ substituted x u (assertion_of f) → IsTrue (is_simple (assertion_of f)) → IsTrue (is_simple (assertion_of r))
simple-of x u f r e h = ap is_simple e ∙ simple-substituted x u (assertion_of f) ∙ h
