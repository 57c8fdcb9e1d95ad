-- The second and third stage together keep truth.
use Rattle.std.proofs.Common.{◌≤◌, ◌≡◌, ℕ, zero, suc, ◌*◌, ◌/◌, ◌<◌, inl, inr, ◌↔◌, Bool, true, false, ◌&&◌, cond, eq-eqb, List, [], ◌∷◌, ◌++◌, refl, sym, ap, ◌∙◌, subst, arith, ℤ, pos, negsuc, ◌+ℤ◌, ◌*ℤ◌}
use Rattle.std.proofs.lemmas.Int.{ints}
use Rattle.std.proofs.lemmas.Bool.Decides.{Decides-int_eq}
use Rattle.hs_pure.proofs.Vars.{same-eq}
use Rattle.std.specs.List.{Contains}
use Rattle.hs_elimination.proofs.Stage2 as S2
use Rattle.hs_elimination.proofs.Stage3 as S3
use Rattle.hs_elimination.proofs.Lcms.{lcm-left, lcm-right, lcm_positive}
use Rattle.hs_elimination.proofs.Meaning.{AreRising, HasCoefficient, Assignment, HasPositiveDivisors, Holds, IsCommonMultiple, IsMultipleOf, IsScaled, IsUnit, RisesFrom, assign}
use Rattle.hs_elimination.proofs.Rising.{coefficient-total, rises-merge, rises-scale, rises-without, total}
use Rattle.hs_elimination.proofs.Stage3.{contains_cases, contains_head, contains_left, contains_none, contains_right, contains_tail}
use Rattle.hs_elimination.proofs.Values.{coefficient-without, total-plus, total-times}
use Rattle.hs_elimination.specs.Cases.{has_lin, join_distinct, lower_bounds, period, period_with, stage3}
use Rattle.hs_elimination.specs.Form.{Form, conjunction, const, disjunction, multiple, no_multiple, positive}
use Rattle.hs_elimination.specs.Linear.{coefficient, place, plus, rest, same_lin, same_terms, single, times, without}
use Rattle.hs_elimination.specs.Scaling.{multiplier, multiplier_with, scale, scale_by, stage2}
use Rattle.hs_pure.specs.declared.lin.Lin.{Lin}
use Rattle.hs_pure.specs.declared.var.Var.{Var}

Factor : ℕ → ℕ → Type 0
Factor m n = (c : ℕ) × (n ≡ c * m)

factor_self : (m : ℕ) → Factor m m
unfolding Factor
factor_self m = (1, omega arith)

factor_trans : (a b c : ℕ) → Factor a b → Factor b c → Factor a c
unfolding Factor
factor_trans a b c h k = (k.0 * h.0, k.1 ∙ ap (λ (n : ℕ). k.0 * n) h.1 ∙ times_assoc k.0 h.0 a)
  where
    times_assoc : (x y z : ℕ) → x * (y * z) ≡ x * y * z
    times_assoc x y z = omega arith

-- ---- the multiplier
multiplier_with-grows : (m : ℕ) (c : ℤ) → Factor m (multiplier_with m c)
unfolding Factor
multiplier_with-grows m (pos zero) = factor_self m
multiplier_with-grows m (pos (suc n)) = lcm-left m (suc n)
multiplier_with-grows m (negsuc n) = lcm-left m (suc n)

multiplier-grows : (x : ℕ) (f : Form) (m : ℕ) → Factor m (multiplier x f m)
multiplier-grows x (const b) m = factor_self m
multiplier-grows x (positive t) m = multiplier_with-grows m (coefficient x t.terms)
multiplier-grows x (multiple d t) m = multiplier_with-grows m (coefficient x t.terms)
multiplier-grows x (no_multiple d t) m = multiplier_with-grows m (coefficient x t.terms)
multiplier-grows x (conjunction f g) m = factor_trans m (multiplier x f m) _ (multiplier-grows x f m) (multiplier-grows x g (multiplier x f m))
multiplier-grows x (disjunction f g) m = factor_trans m (multiplier x f m) _ (multiplier-grows x f m) (multiplier-grows x g (multiplier x f m))

multiplier_with-positive : (m : ℕ) (c : ℤ) → 0 < m → 0 < multiplier_with m c
multiplier_with-positive m (pos zero) h = h
multiplier_with-positive m (pos (suc n)) h = lcm_positive m (suc n) h (omega arith)
multiplier_with-positive m (negsuc n) h = lcm_positive m (suc n) h (omega arith)

pub multiplier-positive : (x : ℕ) (f : Form) (m : ℕ) → 0 < m → 0 < multiplier x f m
multiplier-positive x (const b) m h = h
multiplier-positive x (positive t) m h = multiplier_with-positive m (coefficient x t.terms) h
multiplier-positive x (multiple d t) m h = multiplier_with-positive m (coefficient x t.terms) h
multiplier-positive x (no_multiple d t) m h = multiplier_with-positive m (coefficient x t.terms) h
multiplier-positive x (conjunction f g) m h = multiplier-positive x g (multiplier x f m) (multiplier-positive x f m h)
multiplier-positive x (disjunction f g) m h = multiplier-positive x g (multiplier x f m) (multiplier-positive x f m h)

multiplier_with-is : (m : ℕ) (c : ℤ) → HasCoefficient (multiplier_with m c) c
multiplier_with-is m (pos zero) = tt
multiplier_with-is m (pos (suc n)) = lcm-right m (suc n)
multiplier_with-is m (negsuc n) = lcm-right m (suc n)

coefficient_more : (m n : ℕ) (c : ℤ) → Factor m n → HasCoefficient m c → HasCoefficient n c
unfolding Factor
coefficient_more m n (pos zero) h k = tt
coefficient_more m n (pos (suc p)) h k = factor_trans (suc p) m n k h
coefficient_more m n (negsuc p) h k = factor_trans (suc p) m n k h

multiple_more : (m n x : ℕ) (f : Form) → Factor m n → IsCommonMultiple m x f → IsCommonMultiple n x f
multiple_more m n x (const b) h k = tt
multiple_more m n x (positive t) h k = (k.0, coefficient_more m n (coefficient x t.terms) h k.1)
multiple_more m n x (multiple d t) h k = (k.0, coefficient_more m n (coefficient x t.terms) h k.1)
multiple_more m n x (no_multiple d t) h k = (k.0, coefficient_more m n (coefficient x t.terms) h k.1)
multiple_more m n x (conjunction f g) h k = (multiple_more m n x f h k.0, multiple_more m n x g h k.1)
multiple_more m n x (disjunction f g) h k = (multiple_more m n x f h k.0, multiple_more m n x g h k.1)

pub multiplier-is : (x : ℕ) (f : Form) (m : ℕ) → AreRising f → IsCommonMultiple (multiplier x f m) x f
multiplier-is x (const b) m r = tt
multiplier-is x (positive t) m r = (r, multiplier_with-is m (coefficient x t.terms))
multiplier-is x (multiple d t) m r = (r, multiplier_with-is m (coefficient x t.terms))
multiplier-is x (no_multiple d t) m r = (r, multiplier_with-is m (coefficient x t.terms))
multiplier-is x (conjunction f g) m r = (multiple_more _ _ x f (multiplier-grows x g (multiplier x f m)) (multiplier-is x f m r.0), multiplier-is x g (multiplier x f m) r.1)
multiplier-is x (disjunction f g) m r = (multiple_more _ _ x f (multiplier-grows x g (multiplier x f m)) (multiplier-is x f m r.0), multiplier-is x g (multiplier x f m) r.1)

-- ---- the period
period_with-grows : (m d : ℕ) (c : ℤ) → Factor m (period_with m d c)
unfolding Factor
period_with-grows m d (pos zero) = factor_self m
period_with-grows m d (pos (suc n)) = lcm-left m d
period_with-grows m d (negsuc n) = lcm-left m d

period-grows : (x : ℕ) (f : Form) (m : ℕ) → Factor m (period x f m)
period-grows x (const b) m = factor_self m
period-grows x (positive t) m = factor_self m
period-grows x (multiple d t) m = period_with-grows m d (coefficient x t.terms)
period-grows x (no_multiple d t) m = period_with-grows m d (coefficient x t.terms)
period-grows x (conjunction f g) m = factor_trans m (period x f m) _ (period-grows x f m) (period-grows x g (period x f m))
period-grows x (disjunction f g) m = factor_trans m (period x f m) _ (period-grows x f m) (period-grows x g (period x f m))

period_with-positive : (m d : ℕ) (c : ℤ) → 0 < m → 0 < d → 0 < period_with m d c
period_with-positive m d (pos zero) h k = h
period_with-positive m d (pos (suc n)) h k = lcm_positive m d h k
period_with-positive m d (negsuc n) h k = lcm_positive m d h k

pub period-positive : (x : ℕ) (f : Form) (m : ℕ) → 0 < m → HasPositiveDivisors f → 0 < period x f m
period-positive x (const b) m h k = h
period-positive x (positive t) m h k = h
period-positive x (multiple d t) m h k = period_with-positive m d (coefficient x t.terms) h k
period-positive x (no_multiple d t) m h k = period_with-positive m d (coefficient x t.terms) h k
period-positive x (conjunction f g) m h k = period-positive x g (period x f m) (period-positive x f m h k.0) k.1
period-positive x (disjunction f g) m h k = period-positive x g (period x f m) (period-positive x f m h k.0) k.1

-- ---- coefficients of 1, -1 and 0, and a common multiple of the divisors
abbrev pub AreUnits : ℕ → Form → Type 0
AreUnits x (const b) = Unit {0}
AreUnits x (positive t) = RisesFrom 0 t.terms × IsUnit (coefficient x t.terms)
AreUnits x (multiple d t) = RisesFrom 0 t.terms × IsUnit (coefficient x t.terms)
AreUnits x (no_multiple d t) = RisesFrom 0 t.terms × IsUnit (coefficient x t.terms)
AreUnits x (conjunction f g) = AreUnits x f × AreUnits x g
AreUnits x (disjunction f g) = AreUnits x f × AreUnits x g

period_with-is : (m d : ℕ) (c : ℤ) → IsMultipleOf (period_with m d c) d c
period_with-is m d (pos zero) = tt
period_with-is m d (pos (suc n)) = lcm-right m d
period_with-is m d (negsuc n) = lcm-right m d

divisor_more : (m n d : ℕ) (c : ℤ) → Factor m n → IsMultipleOf m d c → IsMultipleOf n d c
unfolding Factor
divisor_more m n d (pos zero) h k = tt
divisor_more m n d (pos (suc p)) h k = factor_trans d m n k h
divisor_more m n d (negsuc p) h k = factor_trans d m n k h

scaled_more : (m n x : ℕ) (f : Form) → Factor m n → IsScaled m x f → IsScaled n x f
scaled_more m n x (const b) h k = tt
scaled_more m n x (positive t) h k = k
scaled_more m n x (multiple d t) h k = (k.0, k.1, divisor_more m n d (coefficient x t.terms) h k.2)
scaled_more m n x (no_multiple d t) h k = (k.0, k.1, divisor_more m n d (coefficient x t.terms) h k.2)
scaled_more m n x (conjunction f g) h k = (scaled_more m n x f h k.0, scaled_more m n x g h k.1)
scaled_more m n x (disjunction f g) h k = (scaled_more m n x f h k.0, scaled_more m n x g h k.1)

pub period-is : (x : ℕ) (f : Form) (m : ℕ) → AreUnits x f → IsScaled (period x f m) x f
period-is x (const b) m u = tt
period-is x (positive t) m u = u
period-is x (multiple d t) m u = (u.0, u.1, period_with-is m d (coefficient x t.terms))
period-is x (no_multiple d t) m u = (u.0, u.1, period_with-is m d (coefficient x t.terms))
period-is x (conjunction f g) m u = (scaled_more _ _ x f (period-grows x g (period x f m)) (period-is x f m u.0), period-is x g (period x f m) u.1)
period-is x (disjunction f g) m u = (scaled_more _ _ x f (period-grows x g (period x f m)) (period-is x f m u.0), period-is x g (period x f m) u.1)

-- ---- what stage 2 leaves
coefficient-single : (x : Var) (c : ℤ) → coefficient (place x) (single x c).terms ≡ c
coefficient-single x c = rw (eq-eqb (place x) (place x) refl) (refl)

rises-single : (x : Var) (u : ℤ) → ¬ (u ≡ pos 0) → RisesFrom 0 (single x u).terms
rises-single x u h = (omega arith, h, tt)

rises_scaled : (x : Var) (u k : ℤ) (t : Lin) → ¬ (u ≡ pos 0) → ¬ (k ≡ pos 0) → RisesFrom 0 t.terms → RisesFrom 0 (plus (single x u) (times k (rest (place x) t))).terms
rises_scaled x u k t h n r = rises-merge 0 (single x u).terms (times k (rest (place x) t)).terms (rises-single x u h) (rises-scale 0 k (without (place x) t.terms) n (rises-without 0 (place x) t.terms r))

unit_scaled : (x : Var) (u k : ℤ) (t : Lin) → ¬ (u ≡ pos 0) → ¬ (k ≡ pos 0) → RisesFrom 0 t.terms → coefficient (place x) (plus (single x u) (times k (rest (place x) t))).terms ≡ u
unit_scaled x u k t h n r =
    let none : total (place x) (without (place x) t.terms) ≡ pos 0 = sym (coefficient-total (place x) 0 (without (place x) t.terms) (rises-without 0 (place x) t.terms r)) ∙ coefficient-without (place x) t.terms in
    let own : total (place x) (single x u).terms ≡ u = sym (coefficient-total (place x) 0 (single x u).terms (rises-single x u h)) ∙ coefficient-single x u in
    coefficient-total (place x) 0 (plus (single x u) (times k (rest (place x) t))).terms (rises_scaled x u k t h n r) ∙ total-plus (place x) (single x u) (times k (rest (place x) t)) ∙ rw (own, total-times, none) (none_more u k)
  where
    none_more : (a b : ℤ) → a +ℤ b *ℤ pos 0 ≡ a
    none_more a b = omega (arith, ints)

not_zero : (n : ℕ) → 0 < n → ¬ (pos n ≡ pos 0)
not_zero n h e = omega (arith, ints)

pub minus_not_zero : ¬ (negsuc 0 ≡ pos 0)
minus_not_zero e = omega (arith, ints)

one_not_zero : ¬ (pos 1 ≡ pos 0)
one_not_zero e = omega (arith, ints)

units_term : (l : ℕ) (x : Var) (t : Lin) (c : ℤ) → 0 < l → RisesFrom 0 t.terms → HasCoefficient l c → coefficient (place x) t.terms ≡ c → RisesFrom 0 (scale_by l x c (rest (place x) t) t).terms × IsUnit (coefficient (place x) (scale_by l x c (rest (place x) t) t).terms)
units_term l x t (pos zero) h r m e = (r, inl e)
units_term l x t (pos (suc n)) h r m e =
    let k = not_zero (l / suc n) (S2.factor_positive l (pos (suc n)) h m) in
    (rises_scaled x (pos 1) (pos (l / suc n)) t one_not_zero k r, inr (inl (unit_scaled x (pos 1) (pos (l / suc n)) t one_not_zero k r)))
units_term l x t (negsuc n) h r m e =
    let k = not_zero (l / suc n) (S2.factor_positive l (negsuc n) h m) in
    (rises_scaled x (negsuc 0) (pos (l / suc n)) t minus_not_zero k r, inr (inr (unit_scaled x (negsuc 0) (pos (l / suc n)) t minus_not_zero k r)))

units : (l : ℕ) (x : Var) (f : Form) → 0 < l → IsCommonMultiple l (place x) f → AreUnits (place x) (scale l x f)
units l x (const b) h m = tt
units l x (positive t) h m = units_term l x t (coefficient (place x) t.terms) h m.0 m.1 refl
units l x (multiple d t) h m = units_term l x t (coefficient (place x) t.terms) h m.0 m.1 refl
units l x (no_multiple d t) h m = units_term l x t (coefficient (place x) t.terms) h m.0 m.1 refl
units l x (conjunction f g) h m = (units l x f h m.0, units l x g h m.1)
units l x (disjunction f g) h m = (units l x f h m.0, units l x g h m.1)

pub units-stage2 : (x : Var) (f : Form) → AreRising f → AreUnits (place x) (stage2 x f)
units-stage2 x f r = (units (multiplier (place x) f 1) x f (multiplier-positive (place x) f 1 (omega arith)) (multiplier-is (place x) f 1 r), (rises-single x (pos 1) one_not_zero, inr (inl (coefficient-single x (pos 1)))))

positive_product : (m n : ℕ) → 0 < m → 0 < n → 0 < m * n
positive_product zero n h k = absurd (omega arith)
positive_product (suc m) zero h k = absurd (omega arith)
positive_product (suc m) (suc n) h k = omega arith

positive-scale : (l : ℕ) (x : Var) (f : Form) → 0 < l → IsCommonMultiple l (place x) f → HasPositiveDivisors f → HasPositiveDivisors (scale l x f)
positive-scale l x (const b) h m k = tt
positive-scale l x (positive t) h m k = tt
positive-scale l x (multiple d t) h m k = positive_product d _ k (S2.factor_positive l (coefficient (place x) t.terms) h m.1)
positive-scale l x (no_multiple d t) h m k = positive_product d _ k (S2.factor_positive l (coefficient (place x) t.terms) h m.1)
positive-scale l x (conjunction f g) h m k = (positive-scale l x f h m.0 k.0, positive-scale l x g h m.1 k.1)
positive-scale l x (disjunction f g) h m k = (positive-scale l x f h m.0 k.0, positive-scale l x g h m.1 k.1)

pub positive-stage2 : (x : Var) (f : Form) → AreRising f → HasPositiveDivisors f → HasPositiveDivisors (stage2 x f)
positive-stage2 x f r k =
    let h = multiplier-positive (place x) f 1 (omega arith) in
    (positive-scale (multiplier (place x) f 1) x f h (multiplier-is (place x) f 1 r) k, h)

-- ---- distinct terms
and_left : (a b : Bool) → (a && b) ≡ true → a ≡ true
and_left true b h = refl
and_left false b h = absurd cc

and_right : (a b : Bool) → (a && b) ≡ true → b ≡ true
and_right true b h = h
and_right false b h = absurd cc

abbrev Entry : Type 0
Entry = Var × ℤ

same_terms-is : (es fs : List Entry) → same_terms es fs ≡ true → es ≡ fs
same_terms-is [] [] h = refl
same_terms-is [] (f ∷ fs) h = absurd cc
same_terms-is (e ∷ es) [] h = absurd cc
same_terms-is (e ∷ es) (f ∷ fs) h =
    let rest_is = same_terms-is es fs (and_right _ _ h) in
    let first = and_left _ _ h in
    let c : e.1 ≡ f.1 = (Decides-int_eq e.1 f.1).0 (and_right _ _ first) in
    let v : e.0 ≡ f.0 = same-eq e.0 f.0 (and_left _ _ first) in
    λ i. (v i, c i) ∷ rest_is i

same_lin-is : (t u : Lin) → same_lin t u ≡ true → t ≡ u
same_lin-is t u h =
    let c : t.constant ≡ u.constant = (Decides-int_eq t.constant u.constant).0 (and_left _ _ h) in
    let es : t.terms ≡ u.terms = same_terms-is t.terms u.terms (and_right _ _ h) in
    λ i. record { terms = es i; constant = c i }

has_lin-is : (t : Lin) (us : List Lin) → has_lin t us ≡ true → Contains us t
has_lin-is t [] h = absurd cc
has_lin-is t (u ∷ us) h = by_test (has_lin-is t us) (same_lin t u) refl
  where
    by_test : (has_lin t us ≡ true → Contains us t) → (b : Bool) → same_lin t u ≡ b → Contains (u ∷ us) t
    by_test ih true e = subst (λ (v : Lin). Contains (v ∷ us) t) (same_lin-is t u e) (contains_head t us)
    by_test ih false e = contains_tail u t us (ih (rw e at h))

join_keeps : (ts done : List Lin) (t : Lin) → Contains done t → Contains (join_distinct done ts) t
join_keeps [] done t h = h
join_keeps (u ∷ ts) done t h = by_test (has_lin u done) (join_keeps ts done t h) (join_keeps ts (done ++ u ∷ []) t (contains_left done (u ∷ []) t h))
  where
    by_test : (b : Bool) → Contains (join_distinct done ts) t → Contains (join_distinct (done ++ u ∷ []) ts) t → Contains (join_distinct (cond b done (done ++ u ∷ [])) ts) t
    by_test true p q = p
    by_test false p q = q

pub join_has : (ts done : List Lin) (t : Lin) → Contains ts t → Contains (join_distinct done ts) t
join_has [] done t h = contains_none t h
join_has (u ∷ ts) done t h = elim (contains_cases u t ts h) [
  | inl e ↦ by_test (has_lin u done) refl e
  | inr k ↦ join_has ts (cond (has_lin u done) done (done ++ u ∷ [])) t k
]
  where
    by_test : (b : Bool) → has_lin u done ≡ b → u ≡ t → Contains (join_distinct (cond b done (done ++ u ∷ [])) ts) t
    by_test true e is = join_keeps ts done t (subst (Contains done) is (has_lin-is u done e))
    by_test false e is = join_keeps ts (done ++ u ∷ []) t (subst (Contains (done ++ u ∷ [])) is (contains_right done (u ∷ []) u (contains_head u [])))

-- ---- each stage
pub stage2-is : (x : Var) (f : Form) (s : Assignment) → AreRising f → ((y : ℤ) × Holds (assign s (place x) y) f) ↔ ((y : ℤ) × Holds (assign s (place x) y) (stage2 x f))
stage2-is x f s r = S2.stage2 (multiplier (place x) f 1) x f s (multiplier-positive (place x) f 1 (omega arith)) (multiplier-is (place x) f 1 r)

pub stage3-is : (x : Var) (g : Form) (s : Assignment) → AreUnits (place x) g → HasPositiveDivisors g → ((y : ℤ) × Holds (assign s (place x) y) g) ↔ Holds s (stage3 x g)
stage3-is x g s u k = S3.stage3 (period (place x) g 1) (join_distinct [] (lower_bounds (place x) g)) (place x) g s (period-positive (place x) g 1 (omega arith) k) (period-is (place x) g 1 u) (join_has (lower_bounds (place x) g) [])

-- ---- both only grow

above_factor : (m n : ℕ) → 0 < n → Factor m n → m ≤ n
unfolding Factor
above_factor m n h f = by_factor f.0 f.1
  where
    by_factor : (c : ℕ) → n ≡ c * m → m ≤ n
    by_factor zero e = omega arith
    by_factor (suc c) e = omega arith

pub multiplier-above : (x : ℕ) (f : Form) (m : ℕ) → 0 < m → m ≤ multiplier x f m
multiplier-above x f m h = above_factor m (multiplier x f m) (multiplier-positive x f m h) (multiplier-grows x f m)

pub period-above : (x : ℕ) (f : Form) (m : ℕ) → 0 < m → HasPositiveDivisors f → m ≤ period x f m
period-above x f m h k = above_factor m (period x f m) (period-positive x f m h k) (period-grows x f m)
