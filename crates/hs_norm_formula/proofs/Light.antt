-- A light sum is never refused.
use Rattle.std.proofs.Common.{◌≡◌, ℕ, suc, ◌+◌, ◌≤◌, ◌^◌, ℤ, pos, neg_ℤ, ◌+ℤ◌, unsigned_abs, Bool, true, false, nat_le, nat_lt, List, [], ◌∷◌, Option, None, Some, refl, ap, ◌∙◌, arith, if◌then◌else◌, slice_get}
use Rattle.std.specs.List.{fold}
use Rattle.std.specs.Option.{option_map}
use Rattle.std.specs.Ordering.{int_eq}
use Rattle.std.proofs.lemmas.Int.{ints}
use Rattle.std.proofs.lemmas.List.Sums.{sum_by-cons}
use Rattle.std.proofs.lemmas.Bool.Decides.{Decides-int_eq, nat_tests}
use Rattle.hs_pure.specs.declared.var.Var.{Var}
use Rattle.hs_pure.specs.declared.lin.Lin.{Lin}
use Rattle.hs_pure.specs.Stack.{same}
use Rattle.hs_pure.specs.Sums.{weight}
use Rattle.hs_norm_formula.specs.declared.sum.Term.{Term}
use Rattle.hs_norm_formula.specs.Sum.{place, is_of, coefficient, coefficient_in, changed, put, amount, so_far, with_number, small, add, added, zero_sum}
use Rattle.hs_norm_formula.specs.Sum as sum_spec
use Rattle.hs_norm_formula.specs.Laws.{LightIsKept}

pub changed-suc : (there zero : Bool) (k : ℕ) (u t : Var × ℤ) (ts : List (Var × ℤ)) → changed there zero (suc k) u (t ∷ ts) ≡ t ∷ changed there zero k u ts
changed-suc true true k u t ts = refl
changed-suc true false k u t ts = refl
changed-suc false true k u t ts = refl
changed-suc false false k u t ts = refl

zero_of : (c : ℤ) → int_eq c (pos 0) ≡ true → unsigned_abs c ≡ 0
zero_of c e = ap unsigned_abs ((Decides-int_eq c (pos 0)).0 e)

module _ (v : Var) (c : ℤ) where
  -- at the head of the list
  weight-head : (t : Var × ℤ) (ts : List (Var × ℤ)) (s z : Bool) → int_eq c (pos 0) ≡ z →
      weight (changed s z 0 (v, c) (t ∷ ts)) + unsigned_abs (if s then t.1 else pos 0) ≡ (unsigned_abs t.1 + weight ts) + unsigned_abs c
  weight-head t ts true true e = let f = zero_of c e in omega arith
  weight-head t ts true false e = omega arith
  weight-head t ts false true e = let f = zero_of c e in omega arith
  weight-head t ts false false e = omega arith

  -- what v weighed goes, and c comes
  weight-put : (ts : List (Var × ℤ)) → weight (put v c ts) + unsigned_abs (coefficient v ts) ≡ weight ts + unsigned_abs c
  weight-put [] = of (int_eq c (pos 0)) refl
    where
      of : (z : Bool) → int_eq c (pos 0) ≡ z → weight (changed false z 0 (v, c) []) + 0 ≡ 0 + unsigned_abs c
      of true e = let f = zero_of c e in omega arith
      of false e = omega arith
  weight-put (t ∷ ts) = of (nat_lt t.0.number v.number) (weight-put ts)
    where
      behind : weight (put v c ts) + unsigned_abs (coefficient v ts) ≡ weight ts + unsigned_abs c →
          weight (t ∷ put v c ts) + unsigned_abs (coefficient v ts) ≡ (unsigned_abs t.1 + weight ts) + unsigned_abs c
      behind ih = omega arith

      of : (b : Bool) → weight (put v c ts) + unsigned_abs (coefficient v ts) ≡ weight ts + unsigned_abs c →
          weight (changed (is_of v (slice_get (t ∷ ts) (if b then suc (place v ts) else 0))) (int_eq c (pos 0)) (if b then suc (place v ts) else 0) (v, c) (t ∷ ts))
          + unsigned_abs (coefficient_in v (slice_get (t ∷ ts) (if b then suc (place v ts) else 0))) ≡ (unsigned_abs t.1 + weight ts) + unsigned_abs c
      of true ih = ap (λ ts'. weight ts' + unsigned_abs (coefficient v ts)) (changed-suc (is_of v (slice_get ts (place v ts))) (int_eq c (pos 0)) (place v ts) (v, c) t ts) ∙ behind ih
      of false ih = weight-head t ts (same t.0 v) (int_eq c (pos 0)) refl

abbrev size : Lin → ℕ
size a = weight a.terms + unsigned_abs a.constant

size-with : (a : Lin) (v : Option Var) (x : ℤ) → size (with_number a v x) + unsigned_abs (so_far a v) ≡ size a + unsigned_abs x
size-with a None x = omega arith
size-with a (Some v) x = let h = weight-put v x a.terms in omega arith

so_far-le : (a : Lin) (v : Option Var) → unsigned_abs (so_far a v) ≤ size a
so_far-le a None = omega arith
so_far-le a (Some v) = let h = weight-put v (pos 0) a.terms in omega arith

abs_add : (a b : ℤ) → unsigned_abs (a +ℤ b) ≤ unsigned_abs a + unsigned_abs b
abs_add a b = omega (arith, ints)

abs-amount : (t : Term) → unsigned_abs (amount t) ≡ t.size
abs-amount t = of t.minus t.size
  where
    of : (b : Bool) (n : ℕ) → unsigned_abs (if b then neg_ℤ (pos n) else pos n) ≡ n
    of true n = omega (arith, ints)
    of false n = refl

is_le : (m n : ℕ) → m ≤ n → nat_le m n ≡ true
is_le m n h = grind (arith, nat_tests)

abbrev Added : ℕ → Option Lin → Type 0
Added w found = (b : Lin) × (found ≡ Some b) × (size b ≤ w)

step : (a : Lin) (t : Term) (w : ℕ) → size a + t.size ≤ w → w ≤ 2 ^ 126 → Added w (add (Some a) t)
step a t w le room =
    let x = so_far a t.var +ℤ amount t in
    let below = so_far-le a t.var in
    let sum = abs_add (so_far a t.var) (amount t) in
    let part = abs-amount t in
    let put_in = size-with a t.var x in (
      with_number a t.var x,
      ap (λ b. option_map (with_number a t.var) (if b then Some x else None)) (is_le (unsigned_abs x) (2 ^ 126) (of (unsigned_abs x) (unsigned_abs (so_far a t.var)) (unsigned_abs (amount t)) t.size (size a) w sum part below le room)),
      last (size (with_number a t.var x)) (unsigned_abs x) (unsigned_abs (so_far a t.var)) (unsigned_abs (amount t)) t.size (size a) w put_in sum part le,
    )
  where
    of : (x s m k a w : ℕ) → x ≤ s + m → m ≡ k → s ≤ a → a + k ≤ w → w ≤ 2 ^ 126 → x ≤ 2 ^ 126
    of x s m k a w h e g f r = omega arith

    last : (b x s m k a w : ℕ) → b + s ≡ a + x → x ≤ s + m → m ≡ k → a + k ≤ w → b ≤ w
    last b x s m k a w e h f g = omega arith

light : (ts : List Term) (a : Lin) (w : ℕ) → size a + sum_spec.weight ts ≤ w → w ≤ 2 ^ 126 → Added w (fold add (Some a) ts)
light [] a w le room = (a, refl, of (size a) (sum_spec.weight []) w le)
  where
    of : (n k w : ℕ) → n + k ≤ w → n ≤ w
    of n k w h = omega arith
light (t ∷ ts) a w le room =
    let next = step a t (size a + t.size) (omega arith) (first (size a) t.size (sum_spec.weight ts) (sum_spec.weight (t ∷ ts)) w (sum_by-cons (λ t. t.size) t ts) le room) in
    let rest = light ts next.0 w (more (size next.0) (size a) t.size (sum_spec.weight ts) (sum_spec.weight (t ∷ ts)) w (sum_by-cons (λ t. t.size) t ts) next.2 le) room in
    (rest.0, ap (λ found. fold add found ts) next.1 ∙ rest.1, rest.2)
  where
    first : (a k s all w : ℕ) → all ≡ k + s → a + all ≤ w → w ≤ 2 ^ 126 → a + k ≤ 2 ^ 126
    first a k s all w e h r = omega arith

    more : (b a k s all w : ℕ) → all ≡ k + s → b ≤ a + k → a + all ≤ w → b + s ≤ w
    more b a k s all w e h g = omega arith

pub light_is_kept : LightIsKept
light_is_kept ts le = light ts zero_sum (2 ^ 126) (of (sum_spec.weight ts) (2 ^ 126) le) (self (2 ^ 126))
  where
    of : (k w : ℕ) → k ≤ w → 0 + k ≤ w
    of k w h = omega arith

    self : (n : ℕ) → n ≤ n
    self n = omega arith
