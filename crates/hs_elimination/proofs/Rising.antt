-- Sums and multiples of terms keep the order of their variables.
use Rattle.std.proofs.Common.{◌≡◌, ℕ, zero, suc, ◌<◌, ◌≤◌, Bool, true, false, cond, eqb, eqb-true, nat_lt, List, [], ◌∷◌, refl, arith, map, ℤ, pos, negsuc, ◌+ℤ◌, ◌*ℤ◌}
use Rattle.std.proofs.lemmas.Bool.Decides.{nat_tests, Decides-int_eq}
use Rattle.std.specs.Ordering.{int_eq}
use Rattle.std.proofs.lemmas.Int.{ints}
use Rattle.hs_elimination.proofs.Meaning.{RisesFrom}
use Rattle.hs_elimination.specs.Linear.{coefficient, merge, merge_one, place, prepend, scale_term, without}
use Rattle.hs_pure.specs.declared.var.Var.{Var}

abbrev Entry : Type 0
Entry = Var × ℤ

weaken : (m n : ℕ) (es : List Entry) → m ≤ n → RisesFrom n es → RisesFrom m es
weaken m n [] h r = tt
weaken m n (e ∷ es) h r = (omega (arith, r.0), r.1, r.2)

zero_test : (c : ℤ) → c ≡ pos 0 → int_eq c (pos 0) ≡ true
zero_test c e = (Decides-int_eq c (pos 0)).1 e

rises-prepend : (m : ℕ) (v : Var) (c : ℤ) (es : List Entry) → m ≤ (place v) → RisesFrom (suc (place v)) es → RisesFrom m (prepend v c es)
rises-prepend m v c es h r = by_zero (int_eq c (pos 0)) refl
  where
    by_zero : (z : Bool) → int_eq c (pos 0) ≡ z → RisesFrom m (cond z es ((v, c) ∷ es))
    by_zero true e = weaken m (suc (place v)) es (omega arith) r
    by_zero false e = (h, λ same. let q = zero_test c same in cc, r)

lt_is : (m n : ℕ) → nat_lt m n ≡ true → m < n
lt_is m n h = grind (arith, nat_tests)

le_is : (m n : ℕ) → nat_lt m n ≡ false → n ≤ m
le_is m n h = grind (arith, nat_tests)

rises-merge_one : (m : ℕ) (v : Var) (c : ℤ) (more : List Entry → List Entry) → m ≤ (place v) → ¬ (c ≡ pos 0) → ((gs : List Entry) → RisesFrom (suc (place v)) gs → RisesFrom (suc (place v)) (more gs)) → (fs : List Entry) → RisesFrom m fs → RisesFrom m (merge_one v c more fs)
rises-merge_one m v c more h n k [] r = (h, n, k [] tt)
rises-merge_one m v c more h n k (e ∷ es) r = by_tests (λ l. rises-merge_one (suc (place e.0)) v c more l n k es r.2) (nat_lt (place v) (place e.0)) (nat_lt (place e.0) (place v)) refl refl
  where
    by_tests : (suc (place e.0) ≤ (place v) → RisesFrom (suc (place e.0)) (merge_one v c more es)) → (p q : Bool) → nat_lt (place v) (place e.0) ≡ p → nat_lt (place e.0) (place v) ≡ q → RisesFrom m (cond p ((v, c) ∷ more (e ∷ es)) (cond q (e ∷ merge_one v c more es) (prepend v (c +ℤ e.1) (more es))))
    by_tests ih true q is js = (h, n, k (e ∷ es) (lt_is (place v) (place e.0) is, r.1, r.2))
    by_tests ih false true is js = (r.0, r.1, ih (lt_is (place e.0) (place v) js))
    by_tests ih false false is js = rises-prepend m v (c +ℤ e.1) (more es) h (k es (weaken (suc (place v)) (suc (place e.0)) es (omega (arith, le_is (place e.0) (place v) js)) r.2))

pub rises-merge : (m : ℕ) (es fs : List Entry) → RisesFrom m es → RisesFrom m fs → RisesFrom m (merge es fs)
rises-merge m [] fs r q = q
rises-merge m (e ∷ es) fs r q = rises-merge_one m e.0 e.1 (merge es) r.0 r.1 (λ gs g. rises-merge (suc (place e.0)) es gs r.2 g) fs q

not_zero_product : (k c : ℤ) → ¬ (k ≡ pos 0) → ¬ (c ≡ pos 0) → ¬ (k *ℤ c ≡ pos 0)
not_zero_product (pos zero) c h n e = h refl
not_zero_product k (pos zero) h n e = n refl
not_zero_product (pos (suc a)) (pos (suc b)) h n e = omega (arith, ints)
not_zero_product (pos (suc a)) (negsuc b) h n e = omega (arith, ints)
not_zero_product (negsuc a) (pos (suc b)) h n e = omega (arith, ints)
not_zero_product (negsuc a) (negsuc b) h n e = omega (arith, ints)

pub rises-scale : (m : ℕ) (k : ℤ) (es : List Entry) → ¬ (k ≡ pos 0) → RisesFrom m es → RisesFrom m (map (scale_term k) es)
rises-scale m k [] h r = tt
rises-scale m k (e ∷ es) h r = (r.0, not_zero_product k e.1 h r.1, rises-scale (suc (place e.0)) k es h r.2)

pub rises-without : (m x : ℕ) (es : List Entry) → RisesFrom m es → RisesFrom m (without x es)
rises-without m x [] r = tt
rises-without m x (e ∷ es) r = by_test (eqb (place e.0) x) (rises-without (suc (place e.0)) x es r.2)
  where
    by_test : (b : Bool) → RisesFrom (suc (place e.0)) (without x es) → RisesFrom m (cond b (without x es) (e ∷ without x es))
    by_test true q = weaken m (suc (place e.0)) (without x es) (omega (arith, r.0)) q
    by_test false q = (r.0, r.1, q)

-- the sum of the coefficients of x
abbrev pub total : ℕ → List Entry → ℤ
total x [] = pos 0
total x (e ∷ es) = cond (eqb (place e.0) x) (e.1 +ℤ total x es) (total x es)

-- ---- where the variables rise, the first coefficient is the sum of all
past : (x m : ℕ) (es : List Entry) → x < m → RisesFrom m es → total x es ≡ pos 0
past x m [] h r = refl
past x m (e ∷ es) h r = by_test (past x (suc (place e.0)) es (omega (arith, r.0)) r.2) (eqb (place e.0) x) refl
  where
    by_test : total x es ≡ pos 0 → (b : Bool) → eqb (place e.0) x ≡ b → cond b (e.1 +ℤ total x es) (total x es) ≡ pos 0
    by_test ih true is = absurd (omega (arith, eqb-true (place e.0) x is, r.0))
    by_test ih false is = ih

pub coefficient-total : (x m : ℕ) (es : List Entry) → RisesFrom m es → coefficient x es ≡ total x es
coefficient-total x m [] r = refl
coefficient-total x m (e ∷ es) r = by_test (coefficient-total x (suc (place e.0)) es r.2) (eqb (place e.0) x) refl
  where
    plus_none : (a b : ℤ) → b ≡ pos 0 → a ≡ a +ℤ b
    plus_none a b h = omega (arith, ints)

    by_test : coefficient x es ≡ total x es → (b : Bool) → eqb (place e.0) x ≡ b → cond b e.1 (coefficient x es) ≡ cond b (e.1 +ℤ total x es) (total x es)
    by_test ih true is = plus_none e.1 (total x es) (past x (suc (place e.0)) es (omega (arith, eqb-true (place e.0) x is)) r.2)
    by_test ih false is = ih
