-- The values of a No keep to 128 bits.
use Rattle.std.proofs.Common.{◌≡◌, ℕ, ◌+◌, ◌*◌, ◌^◌, ◌<◌, ◌≤◌, ◌==◌, Bool, true, false, not, cond, nat_lt, length, get_or, drop, List, [], ◌∷◌, refl, sym, ap, ◌∙◌, subst, arith, ℤ, pos, unsigned_abs, ◌+ℤ◌, ◌*ℤ◌, FitsSigned}
use Rattle.std.proofs.Math.Nat.{mul-le-mul}
use Rattle.std.proofs.lemmas.List.{drop_more}
use Rattle.std.proofs.lemmas.Int.{ints, unsigned_abs-mul, to_z-of_z}
use mir.Syntax.{w128}
use mir.Val.{SFits, to_z, of_z}
use Rattle.hs_pure.specs.declared.lin.Lin.{Lin}
use Rattle.hs_pure.specs.Sums.{weight}
use Rattle.hs_elimination.specs.Linear.{place, coefficient}
use Rattle.hs_unit.specs.Reduction.{Term, is_small, all_small}
use Rattle.hs_unit.proofs.Steps.{and_second}
use Rattle.hs_unit.proofs.Smalls.{fits, le_is, passed_on}

-- ---- small forms

not_lt : (m n : ℕ) → not (nat_lt m n) ≡ true → n ≤ m
not_lt m n h = by_test (nat_lt m n) refl h
  where
    by_test : (b : Bool) → nat_lt m n ≡ b → not b ≡ true → n ≤ m
    by_test true e k = absurd cc
    by_test false e k = le_is m n e

small_is : (f : Lin) → is_small f ≡ true → weight f.terms + unsigned_abs f.constant ≤ 2 ^ 60
small_is f h = not_lt (2 ^ 60) (weight f.terms + unsigned_abs f.constant) h

coefficient-light : (x : ℕ) (ts : List Term) → unsigned_abs (coefficient x ts) ≤ weight ts
coefficient-light x [] = omega (arith, ints)
coefficient-light x (t ∷ ts) = by_place (coefficient-light x ts) (place t.0 == x)
  where
    by_place : unsigned_abs (coefficient x ts) ≤ weight ts → (b : Bool) → unsigned_abs (cond b t.1 (coefficient x ts)) ≤ unsigned_abs t.1 + weight ts
    by_place ih true = omega arith
    by_place ih false = omega (arith, ih)

pub constant-near : (f : Lin) → is_small f ≡ true → unsigned_abs f.constant ≤ 2 ^ 60
constant-near f h = let k = small_is f h in omega (arith, k)

pub coefficient-near : (f : Lin) (x : ℕ) → is_small f ≡ true → unsigned_abs (coefficient x f.terms) ≤ 2 ^ 60
coefficient-near f x h = let k = small_is f h in let l = coefficient-light x f.terms in omega (arith, k, l)

abbrev pub no_form : Lin
no_form = record { terms = []; constant = pos 0 }

-- those that are left stay small
pub small-next : (fs : List Lin) (i : ℕ) → i < length fs → all_small (drop i fs) ≡ true → all_small (drop (i + 1) fs) ≡ true
small-next fs i h s =
    and_second (is_small (get_or fs i no_form)) (all_small (drop (i + 1) fs)) (subst (λ (gs : List Lin). all_small gs ≡ true) (drop_more fs i no_form h) s)

-- ---- products

product-near : (c y : ℤ) → unsigned_abs c ≤ 2 ^ 60 → unsigned_abs y ≤ 2 ^ 60 + 1 → unsigned_abs (c *ℤ y) ≤ 2 ^ 60 * (2 ^ 60 + 1)
product-near c y h k = subst (λ (n : ℕ). n ≤ 2 ^ 60 * (2 ^ 60 + 1)) (sym (unsigned_abs-mul c y)) (mul-le-mul h k)

sum-near : (p k : ℤ) → unsigned_abs p ≤ 2 ^ 121 → unsigned_abs k ≤ 2 ^ 60 → unsigned_abs (p +ℤ k) ≤ 2 ^ 122
sum-near p k h l = omega (arith, ints, h, l)

product-bound : (c y : ℤ) → unsigned_abs c ≤ 2 ^ 60 → unsigned_abs y ≤ 2 ^ 60 + 1 → unsigned_abs (c *ℤ y) ≤ 2 ^ 121
product-bound c y h k = let l = product-near c y h k in omega (arith, l)

pub product-fits : (c y : ℤ) → unsigned_abs c ≤ 2 ^ 60 → unsigned_abs y ≤ 2 ^ 60 + 1 → FitsSigned w128 (c *ℤ y)
product-fits c y h k = let l = product-bound c y h k in fits (c *ℤ y) (omega (arith, l))

pub value-bound : (c y k : ℤ) → unsigned_abs c ≤ 2 ^ 60 → unsigned_abs y ≤ 2 ^ 60 + 1 → unsigned_abs k ≤ 2 ^ 60 → unsigned_abs (c *ℤ y +ℤ k) ≤ 2 ^ 122
value-bound c y k h l m = sum-near (c *ℤ y) k (product-bound c y h l) m

pub value-fits : (c y k : ℤ) → unsigned_abs c ≤ 2 ^ 60 → unsigned_abs y ≤ 2 ^ 60 + 1 → unsigned_abs k ≤ 2 ^ 60 → FitsSigned w128 (c *ℤ y +ℤ k)
value-fits c y k h l m = let b = value-bound c y k h l m in fits (c *ℤ y +ℤ k) (omega (arith, b))

-- ---- as the program computes them

pub computed : (c y k : ℤ) → SFits w128 c → SFits w128 y → SFits w128 k → unsigned_abs c ≤ 2 ^ 60 → unsigned_abs y ≤ 2 ^ 60 + 1 → unsigned_abs k ≤ 2 ^ 60
    → to_z w128 (of_z w128 (to_z w128 (of_z w128 (to_z w128 (of_z w128 c) *ℤ to_z w128 (of_z w128 y))) +ℤ to_z w128 (of_z w128 k))) ≡ c *ℤ y +ℤ k
computed c y k fc fy fk h l m =
    let p : to_z w128 (of_z w128 (to_z w128 (of_z w128 c) *ℤ to_z w128 (of_z w128 y))) ≡ c *ℤ y =
    ap (λ z. to_z w128 (of_z w128 z)) (λ i. to_z-of_z w128 c fc i *ℤ to_z-of_z w128 y fy i) ∙ to_z-of_z w128 (c *ℤ y) (product-fits c y h l) in
    ap (λ z. to_z w128 (of_z w128 z)) (λ i. p i +ℤ to_z-of_z w128 k fk i) ∙ to_z-of_z w128 (c *ℤ y +ℤ k) (value-fits c y k h l m)

-- a coefficient of a small form, as it is passed
pub coefficient-passed : (z : ℤ) (f : Lin) (x : ℕ) → is_small f ≡ true → z ≡ coefficient x f.terms → unsigned_abs (to_z w128 (of_z w128 z)) ≤ 2 ^ 60
coefficient-passed z f x h e =
    let n : unsigned_abs z ≤ 2 ^ 60 = subst (λ (c : ℤ). unsigned_abs c ≤ 2 ^ 60) (sym e) (coefficient-near f x h) in
    subst (λ (c : ℤ). unsigned_abs c ≤ 2 ^ 60) (sym (passed_on z (2 ^ 60) n (omega arith))) n
