-- What is small has no number past 128 bits.
use Rattle.std.proofs.Common.{◌≡◌, ℕ, ◌+◌, ◌*◌, ◌^◌, ◌<◌, ◌≤◌, ◌==◌, Bool, true, false, not, cond, nat_lt, inl, inr, List, [], ◌∷◌, map, refl, ap, ◌∙◌, subst, arith, ℤ, unsigned_abs, ◌*ℤ◌, FitsSigned}
use Rattle.std.proofs.lemmas.Bool.Decides.{nat_tests}
use Rattle.std.proofs.lemmas.Int.{ints, unsigned_abs-mul, to_z-of_z}
use mir.Syntax.{w128}
use mir.Val.{to_z, of_z}
use Rattle.hs_pure.specs.declared.var.Var.{Var}
use Rattle.hs_pure.specs.declared.lin.Lin.{Lin}
use Rattle.hs_pure.specs.Sums.{weight}
use Rattle.hs_elimination.specs.Linear.{place, rest, times, without, scale_term, HasWideTerm, IsWideLin}
use Rattle.hs_unit.specs.Reduction.{is_small}

abbrev Entry : Type 0
Entry = Var × ℤ

lt_is : (m n : ℕ) → nat_lt m n ≡ true → m < n
lt_is m n h = grind (arith, nat_tests)

pub le_is : (m n : ℕ) → nat_lt m n ≡ false → n ≤ m
le_is m n h = grind (arith, nat_tests)

is_lt : (m n : ℕ) → m < n → nat_lt m n ≡ true
is_lt m n h = grind (arith, nat_tests)

pub fits : (c : ℤ) → unsigned_abs c < 2 ^ 127 → FitsSigned w128 c
fits c h = omega (arith, ints, h)

large : (c : ℤ) → ¬ (FitsSigned w128 c) → 2 ^ 127 ≤ unsigned_abs c
large c h = by_test (nat_lt (unsigned_abs c) (2 ^ 127)) refl
  where
    by_test : (b : Bool) → nat_lt (unsigned_abs c) (2 ^ 127) ≡ b → 2 ^ 127 ≤ unsigned_abs c
    by_test true e = absurd (h (fits c (lt_is (unsigned_abs c) (2 ^ 127) e)))
    by_test false e = le_is (unsigned_abs c) (2 ^ 127) e

heavy : (ts : List Entry) → HasWideTerm ts → 2 ^ 127 ≤ weight ts
heavy [] h = absurd h
heavy (t ∷ ts) (inl h) = let l = large t.1 h in omega (arith, l)
heavy (t ∷ ts) (inr h) = let l = heavy ts h in omega (arith, l)

not_small : (a : Lin) → 2 ^ 127 ≤ weight a.terms + unsigned_abs a.constant → is_small a ≡ false
not_small a h = ap not (is_lt (2 ^ 60) (weight a.terms + unsigned_abs a.constant) (omega (arith, h)))

pub wide_not_small : (a : Lin) → IsWideLin a → is_small a ≡ false
wide_not_small a (inl h) = let l = large a.constant h in not_small a (omega (arith, l))
wide_not_small a (inr h) = let l = heavy a.terms h in not_small a (omega (arith, l))

-- ---- a small sum times 1 or -1

large_times : (k c : ℤ) → unsigned_abs k ≡ 1 → ¬ (FitsSigned w128 (k *ℤ c)) → 2 ^ 127 ≤ unsigned_abs c
large_times k c one h = let l = large (k *ℤ c) h in let m = unsigned_abs-mul k c in let e : unsigned_abs (k *ℤ c) ≡ 1 * unsigned_abs c = m ∙ ap (λ (n : ℕ). n * unsigned_abs c) one in omega (arith, l, e)

heavy_times : (k : ℤ) (x : ℕ) (ts : List Entry) → unsigned_abs k ≡ 1 → HasWideTerm (map (scale_term k) (without x ts)) → 2 ^ 127 ≤ weight ts
heavy_times k x [] one h = absurd h
heavy_times k x (t ∷ ts) one h = by_place (heavy_times k x ts one) (place t.0 == x) h
  where
    by_place : (HasWideTerm (map (scale_term k) (without x ts)) → 2 ^ 127 ≤ weight ts) → (b : Bool) → HasWideTerm (map (scale_term k) (cond b (without x ts) (t ∷ without x ts))) → 2 ^ 127 ≤ unsigned_abs t.1 + weight ts
    by_place ih true k = let l = ih k in omega (arith, l)
    by_place ih false (inl w) = let l = large_times k t.1 one w in omega (arith, l)
    by_place ih false (inr w) = let l = ih w in omega (arith, l)

small_not : (a : Lin) → is_small a ≡ true → 2 ^ 127 ≤ weight a.terms + unsigned_abs a.constant → ⊥
small_not a s h = let e = not_small a h in cc

pub solution_fits : (x : ℕ) (f : Lin) → is_small f ≡ true → (k : ℤ) → unsigned_abs k ≡ 1 → (r : Lin) → r ≡ rest x f → IsWideLin (times k r) → ⊥
solution_fits x f s k one r is h = by_case (subst (λ (a : Lin). IsWideLin (times k a)) is h)
  where
    by_case : IsWideLin (times k (rest x f)) → ⊥
    by_case (inl w) = let l = large_times k f.constant one w in small_not f s (omega (arith, l))
    by_case (inr w) = let l = heavy_times k x f.terms one w in small_not f s (omega (arith, l))

-- a number within a bound, as the program passes it
pub passed_on : (z : ℤ) (n : ℕ) → unsigned_abs z ≤ n → n < 2 ^ 127 → to_z w128 (of_z w128 z) ≡ z
passed_on z n h k = to_z-of_z w128 z (fits z (omega (arith, h, k)))

pub unit_passed : (z : ℤ) → unsigned_abs z ≡ 1 → unsigned_abs (to_z w128 (of_z w128 z)) ≡ 1
unit_passed z h = ap unsigned_abs (passed_on z 1 (omega (arith, h)) (omega arith)) ∙ h
