-- Sums stay in order.
use Rattle.std.proofs.Common.{◌≡◌, ℕ, suc, ◌<◌, ◌≤◌, ◌^◌, ℤ, pos, ◌+ℤ◌, unsigned_abs, Bool, true, false, nat_le, nat_lt, List, [], ◌∷◌, Option, None, Some, unwrap_or, refl, sym, ap, ◌∙◌, subst, arith, if◌then◌else◌, slice_get}
use Rattle.std.specs.List.{fold, All}
use Rattle.std.specs.Option.{option_map}
use Rattle.std.specs.Ordering.{int_eq}
use Rattle.std.proofs.lemmas.Bool.Decides.{Decides-int_eq, nat_tests}
use Rattle.hs_pure.specs.declared.var.Var.{Var}
use Rattle.hs_pure.specs.declared.lin.Lin.{Lin}
use Rattle.hs_pure.specs.Stack.{same}
use Rattle.hs_pure.specs.Sums.{RisesFrom, LinIsOrdered}
use Rattle.hs_pure.proofs.Vars.{same-eq, same-from}
use Rattle.hs_pure.proofs.Lists.{All-first, All-later}
use Rattle.hs_norm_formula.specs.declared.sum.Term.{Term}
use Rattle.hs_norm_formula.specs.Sum.{place, is_of, changed, put, so_far, amount, with_number, add, zero_sum}
use Rattle.hs_norm_formula.specs.Laws.{IsNumber, SumIsOrdered}
use Rattle.hs_norm_formula.proofs.Light.{changed-suc}

rises_lower : (m n : ℕ) (ts : List (Var × ℤ)) → m ≤ n → RisesFrom n ts → RisesFrom m ts
rises_lower m n [] le h = tt
rises_lower m n (t ∷ ts) le h = let k = h.0 in (omega arith, h.1, h.2, h.3)

lower : (m n : ℕ) → nat_lt m n ≡ true → m < n
lower m n h = grind (arith, nat_tests)

not_lower : (m n : ℕ) → nat_lt m n ≡ false → n ≤ m
not_lower m n h = grind (arith, nat_tests)

apart : (m n : ℕ) → n ≤ m → ¬ (m ≡ n) → n < m
apart m n le h = grind arith

not_zero : (z : ℤ) → int_eq z (pos 0) ≡ false → ¬ (z ≡ pos 0)
not_zero z e h = let f : int_eq z (pos 0) ≡ true = (Decides-int_eq z (pos 0)).1 h in cc

module _ (v : Var) (c : ℤ) (kind : v.bag ≡ false) where
  -- at the head of the list
  rises-head : (n : ℕ) (t : Var × ℤ) (ts : List (Var × ℤ)) → n ≤ v.number → RisesFrom n (t ∷ ts) → nat_lt t.0.number v.number ≡ false →
      (s z : Bool) → same t.0 v ≡ s → int_eq c (pos 0) ≡ z → RisesFrom n (changed s z 0 (v, c) (t ∷ ts))
  rises-head n t ts from h e true true f g = let k = h.0 in rises_lower n (suc t.0.number) ts (omega arith) h.3
  rises-head n t ts from h e true false f g = (from, kind, not_zero c g, subst (λ (u : Var). RisesFrom (suc u.number) ts) (same-eq t.0 v f) h.3)
  rises-head n t ts from h e false true f g = h
  rises-head n t ts from h e false false f g =
      (from, kind, not_zero c g, (apart t.0.number v.number (not_lower t.0.number v.number e) (λ (k : t.0.number ≡ v.number). let is : same t.0 v ≡ true = same-from t.0 v k (h.1 ∙ sym kind) in (cc)), h.1, h.2, h.3))

  rises-put : (n : ℕ) (ts : List (Var × ℤ)) → n ≤ v.number → RisesFrom n ts → RisesFrom n (put v c ts)
  rises-put n [] from h = of (int_eq c (pos 0)) refl
    where
      of : (z : Bool) → int_eq c (pos 0) ≡ z → RisesFrom n (changed false z 0 (v, c) [])
      of true e = tt
      of false e = (from, kind, not_zero c e, tt)
  rises-put n (t ∷ ts) from h = of (nat_lt t.0.number v.number) refl (λ (less : t.0.number < v.number). rises-put (suc t.0.number) ts (omega arith) h.3)
    where
      of : (b : Bool) → nat_lt t.0.number v.number ≡ b → (t.0.number < v.number → RisesFrom (suc t.0.number) (put v c ts)) →
          RisesFrom n (changed (is_of v (slice_get (t ∷ ts) (if b then suc (place v ts) else 0))) (int_eq c (pos 0)) (if b then suc (place v ts) else 0) (v, c) (t ∷ ts))
      of true e ih = subst (RisesFrom n) (sym (changed-suc (is_of v (slice_get ts (place v ts))) (int_eq c (pos 0)) (place v ts) (v, c) t ts)) (h.0, h.1, h.2, ih (lower t.0.number v.number e))
      of false e ih = rises-head n t ts from h e (same t.0 v) (int_eq c (pos 0)) refl refl

ordered-with : (a : Lin) (v : Option Var) (x : ℤ) → IsNumber v → LinIsOrdered a → LinIsOrdered (with_number a v x)
ordered-with a None x k h = h
ordered-with a (Some v) x k h = rises-put v x k 0 a.terms (omega arith) h

some_eq : (a b : Lin) → Some a ≡ Some b → a ≡ b
some_eq a b e = ap (λ o. unwrap_or o a) e

none_stays : (ts : List Term) (b : Lin) → fold add None ts ≡ Some b → ⊥
none_stays [] b e = cc
none_stays (t ∷ ts) b e = none_stays ts b e

ordered : (ts : List Term) (a b : Lin) → All (λ t. IsNumber t.var) ts → LinIsOrdered a → fold add (Some a) ts ≡ Some b → LinIsOrdered b
ordered [] a b all h e = subst LinIsOrdered (some_eq a b e) h
ordered (t ∷ ts) a b all h e = of (nat_le (unsigned_abs (so_far a t.var +ℤ amount t)) (2 ^ 126)) (ordered ts (with_number a t.var (so_far a t.var +ℤ amount t)) b (All-later (λ (t : Term). IsNumber t.var) t ts all)) e
  where
    of : (z : Bool) → (LinIsOrdered (with_number a t.var (so_far a t.var +ℤ amount t)) → fold add (Some (with_number a t.var (so_far a t.var +ℤ amount t))) ts ≡ Some b → LinIsOrdered b) →
        fold add (option_map (with_number a t.var) (if z then Some (so_far a t.var +ℤ amount t) else None)) ts ≡ Some b → LinIsOrdered b
    of true ih f = ih (ordered-with a t.var (so_far a t.var +ℤ amount t) (All-first (λ (t : Term). IsNumber t.var) t ts all) h) f
    of false ih f = absurd (none_stays ts b f)

pub sum_is_ordered : SumIsOrdered
sum_is_ordered ts a all e = ordered ts zero_sum a all tt e
