-- A case of the third stage that is true gives a value of x, and where none is there is no value.
use Rattle.std.proofs.Common.{◌≡◌, ℕ, zero, suc, ◌+◌, ◌-◌, ◌*◌, ◌<◌, ◌≤◌, inl, inr, ◌↔◌, Option, None, Some, refl, sym, ap, ◌∙◌, subst, arith, true, ℤ, pos, negsuc, ◌+ℤ◌, ◌-ℤ◌, ◌*ℤ◌, neg_ℤ, ◌<ℤ◌, ◌≤ℤ◌}
use Prim.Native.Nat.{◌%◌, ◌/◌}
use Rattle.std.specs.Int.{int_min}
use Rattle.std.specs.Prelude.{int_div}
use Rattle.std.specs.List.{Contains}
use Rattle.std.proofs.lemmas.Int.{ints, clamps}
use Rattle.std.proofs.Math.Nat.{div-eq_of_eq-mul_right}
use Rattle.hs_pure.specs.declared.var.Var.{Var}
use Rattle.hs_pure.specs.declared.lin.Lin.{Lin}
use Rattle.hs_pure.specs.Assertion.{Assertion}
use Rattle.hs_pure.specs.Stack.{Stack, with_value, number_value}
use Rattle.hs_pure.specs.Truth as Truth
use Rattle.hs_pure.specs.Truth.{IsTrueAt}
use Rattle.hs_elimination.specs.Linear.{place, plus, number, coefficient, rest}
use Rattle.hs_elimination.specs.Form.{Form, const, positive, multiple, no_multiple, conjunction, disjunction, assertion}
use Rattle.hs_elimination.specs.Normal.{is_simple, normal, evaluate}
use Rattle.hs_elimination.specs.Scaling.{multiplier}
use Rattle.hs_elimination.specs.Cases.{substitute, minus_infinity, distinct_bounds, period, cases_to, cooper}
use Rattle.hs_elimination.specs.Elimination.{scaled_form}
use Rattle.hs_elimination.specs.Witness.{low_case, near_case, limit_of, lesser_limit, least_limit, excess, low_value}
use Rattle.hs_elimination.proofs.Univariate as U
use Rattle.hs_elimination.proofs.Cooper as C
use Rattle.hs_elimination.proofs.Integers.{mul-sum_left, mul-neg_left}
use Rattle.hs_elimination.proofs.Meaning.{AreRising, HasPositiveDivisors, HasRising, Holds, IsScaled, assign, value}
use Rattle.hs_elimination.proofs.Stacks.{numbers, value-is, holds-agree, agree-back, with_value-agree}
use Rattle.hs_elimination.proofs.Stage1.{holds-evaluate, stage1, iff-trans}
use Rattle.hs_elimination.proofs.Stage2 as S2
use Rattle.hs_elimination.proofs.Stage3 as S3
use Rattle.hs_elimination.proofs.Stage3.{univariate, literal_positive, literal_multiple, literal_no_multiple, holds-univariate, low_is, near_is, divisors}
use Rattle.hs_elimination.proofs.Nesting.{holds-some_of}
use Rattle.hs_elimination.proofs.Elimination.{units-stage2, positive-stage2, multiplier-positive, multiplier-is, period-is, period-positive}
use Rattle.hs_elimination.proofs.Plain.{units-evaluate, rising-evaluate, rising-normal, positive-evaluate, positive-normal, positive-substitute, positive-minus_infinity, positive-cooper, elimination_is}
use Rattle.hs_elimination.proofs.Decided.{true-assertion}

-- ---- the low number

-- a number is within a limit
pub Within : Option ℤ → ℤ → Type 0
Within None y = Unit {0}
Within (Some c) y = y ≤ℤ c

min_first : (y a c : ℤ) → y ≤ℤ int_min a c → y ≤ℤ a
min_first y a c h = omega (arith, ints, clamps)

min_second : (y a c : ℤ) → y ≤ℤ int_min a c → y ≤ℤ c
min_second y a c h = omega (arith, ints, clamps)

within_lesser : (a b : Option ℤ) (y : ℤ) → Within (lesser_limit a b) y → Within a y × Within b y
unfolding Within
within_lesser a None y h = (h, tt)
within_lesser None (Some c) y h = (tt, h)
within_lesser (Some a) (Some c) y h = (min_first y a c h, min_second y a c h)

below_upper : (y r : ℤ) → y ≤ℤ (r -ℤ pos 1) → y <ℤ r
below_upper y r h = omega (arith, ints)

low_literal : (c r y : ℤ) → Within (limit_of c r) y → U.IsLow y (literal_positive c r)
unfolding Within literal_positive
low_literal (pos zero) r y h = tt
low_literal (pos (suc n)) r y h = h
low_literal (negsuc n) r y h = below_upper y r h

low_multiple : (d : ℕ) (c r y : ℤ) → U.IsLow y (literal_multiple d c r)
unfolding literal_multiple
low_multiple d (pos zero) r y = tt
low_multiple d (pos (suc n)) r y = tt
low_multiple d (negsuc n) r y = tt

low_no_multiple : (d : ℕ) (c r y : ℤ) → U.IsLow y (literal_no_multiple d c r)
unfolding literal_no_multiple
low_no_multiple d (pos zero) r y = tt
low_no_multiple d (pos (suc n)) r y = tt
low_no_multiple d (negsuc n) r y = tt

low_within : (s : Stack) (x : ℕ) (f : Form) (a : Option ℤ) (y : ℤ) → Within (least_limit s x f a) y → U.IsLow y (univariate (numbers s) x f) × Within a y
unfolding univariate
low_within s x (const b) a y h = (tt, h)
low_within s x (positive t) a y h =
    let w = within_lesser a (limit_of (coefficient x t.terms) (Truth.value s (rest x t))) y h in
    (low_literal (coefficient x t.terms) (value (numbers s) (rest x t)) y (subst (λ z. Within (limit_of (coefficient x t.terms) z) y) (value-is s (rest x t)) w.1), w.0)
low_within s x (multiple d t) a y h = (low_multiple d (coefficient x t.terms) (value (numbers s) (rest x t)) y, h)
low_within s x (no_multiple d t) a y h = (low_no_multiple d (coefficient x t.terms) (value (numbers s) (rest x t)) y, h)
low_within s x (conjunction f g) a y h =
    let r = low_within s x g (least_limit s x f a) y h in
    let l = low_within s x f a y r.1 in
    ((l.0, r.0), l.1)
low_within s x (disjunction f g) a y h =
    let r = low_within s x g (least_limit s x f a) y h in
    let l = low_within s x f a y r.1 in
    ((l.0, r.0), l.1)

spread : (a e m : ℕ) → ((pos a +ℤ pos e) +ℤ negsuc 0) *ℤ pos m ≡ (pos (a * m) +ℤ pos (e * m)) -ℤ pos m
spread a e m = rw (mul-sum_left, mul-sum_left) (omega (arith, ints))

spread_down : (a e m : ℕ) → ((neg_ℤ (pos a) +ℤ pos e) +ℤ (negsuc 0 +ℤ negsuc 0)) *ℤ pos m ≡ (neg_ℤ (pos (a * m)) +ℤ pos (e * m)) -ℤ pos m -ℤ pos m
spread_down a e m = rw (mul-sum_left, mul-sum_left, mul-sum_left, mul-neg_left) (omega (arith, ints))

congruent_up : (m j a : ℕ) → 0 < m → j ≤ m → U.IsCongruent m (pos a -ℤ pos ((a % m + (m - j)) % m)) (pos j)
congruent_up m j a h k =
    let t = a % m + (m - j) in
    ((pos (a / m) +ℤ pos (t / m)) +ℤ negsuc 0, rw spread (omega (arith, ints)))

congruent_down : (m j a : ℕ) → 0 < m → j ≤ m → U.IsCongruent m (negsuc a -ℤ pos (((m - 1 - a % m) + (m - j)) % m)) (pos j)
congruent_down m j a h k =
    let t = (m - 1 - a % m) + (m - j) in
    ((neg_ℤ (pos (a / m)) +ℤ pos (t / m)) +ℤ (negsuc 0 +ℤ negsuc 0), rw spread_down (omega (arith, ints)))

congruent-excess : (m j : ℕ) (c : ℤ) → 0 < m → j ≤ m → U.IsCongruent m (c -ℤ pos (excess m j c)) (pos j)
congruent-excess m j (pos a) h k = congruent_up m j a h k
congruent-excess m j (negsuc a) h k = congruent_down m j a h k

congruent-low_value : (m j : ℕ) (a : Option ℤ) → 0 < m → j ≤ m → U.IsCongruent m (low_value m j a) (pos j)
congruent-low_value m j None h k = (pos 0, omega (arith, ints))
congruent-low_value m j (Some c) h k = congruent-excess m j c h k

less_than : (c : ℤ) (n : ℕ) → (c -ℤ pos n) ≤ℤ c
less_than c n = omega (arith, ints)

within-low_value : (m j : ℕ) (a : Option ℤ) → Within a (low_value m j a)
unfolding Within
within-low_value m j None = tt
within-low_value m j (Some c) = less_than c (excess m j c)

-- ---- quotients

exact-div : (l : ℕ) (q : ℤ) → 0 < l → int_div (pos l *ℤ q) (pos l) ≡ q
exact-div zero q h = absurd (omega arith)
exact-div (suc k) (pos n) h = ap pos (div-eq_of_eq-mul_right h refl)
exact-div (suc k) (negsuc n) h = by_size (suc k * suc n) refl
  where
    by_size : (size : ℕ) → size ≡ suc k * suc n → int_div (neg_ℤ (pos size)) (pos (suc k)) ≡ negsuc n
    by_size zero e = absurd (omega arith)
    by_size (suc size) e = ap (λ z. neg_ℤ (pos z)) (div-eq_of_eq-mul_right h e)

pub exact_quotient : (l : ℕ) (q y : ℤ) → 0 < l → y ≡ pos l *ℤ q → int_div y (pos l) ≡ q
exact_quotient l q y h e = ap (λ z. int_div z (pos l)) e ∙ exact-div l q h

-- ---- truth of a case

-- the formula is true at s
abbrev pub FormTrueAt : Stack → Form → Type 0
FormTrueAt s f = IsTrueAt s (assertion f)

-- no number from 1 to m makes the minus-infinity form true
abbrev pub NoneLow : Stack → ℕ → Form → ℕ → Type 0
NoneLow s x f m = (j : ℕ) → 1 ≤ j → j ≤ m → ¬ (FormTrueAt s (low_case x f j))

-- no sum of b and a number from 1 to m makes the formula true
abbrev pub NoneNear : Stack → ℕ → Form → ℕ → Lin → Type 0
NoneNear s x f m b = (j : ℕ) → 1 ≤ j → j ≤ m → ¬ (FormTrueAt s (near_case x f b j))

-- ---- the stages
module _ (x : Var) (p : Assertion) (s : Stack) (q : is_simple p ≡ true) (r : HasRising p) where
  first : Form
  first = evaluate (normal true p)

  second : Form
  second = evaluate (scaled_form x p)

  rising_first : AreRising first
  unfolding first
  rising_first = rising-evaluate (normal true p) (rising-normal true p r)

  positive_first : HasPositiveDivisors first
  unfolding first
  positive_first = positive-evaluate (normal true p) (positive-normal true p)

  positive_scaled : HasPositiveDivisors (scaled_form x p)
  unfolding first
  positive_scaled = positive-stage2 x first rising_first positive_first

  positive_second : HasPositiveDivisors second
  unfolding second
  positive_second = positive-evaluate (scaled_form x p) positive_scaled

  scaled_second : IsScaled (period (place x) second 1) (place x) second
  unfolding first second
  scaled_second = period-is (place x) second 1 (units-evaluate (place x) (scaled_form x p) (units-stage2 x first rising_first))

  -- a value of x after the second stage, divided by the multiple
  back : (y : ℤ) → Holds (assign (numbers s) (place x) y) second → (z : ℤ) × (y ≡ pos (multiplier (place x) first 1) *ℤ z) × IsTrueAt (with_value x (number_value z) s) p
  unfolding first second
  back y h =
      let n = numbers s in
      let l = multiplier (place x) first 1 in
      let w = S2.stage2-back l x first n (multiplier-positive (place x) first 1 (omega arith)) (multiplier-is (place x) first 1 rising_first) y
      ((holds-evaluate (assign n (place x) y) (scaled_form x p) positive_scaled).0 h) in
      let z = w.0 in
      let u = with_value x (number_value z) s in
      let at = (holds-evaluate (assign n (place x) z) (normal true p) (positive-normal true p)).0 w.2 in
      (z, w.1, (stage1 u p q).0 (holds-agree (assign n (place x) z) (numbers u) (agree-back (numbers u) (assign n (place x) z) (with_value-agree s x z)) (normal true p) at))

  near-holds : (b : Lin) (j : ℕ) → FormTrueAt s (near_case (place x) second b j) ↔ U.Holds (value (numbers s) b +ℤ pos j) (univariate (numbers s) (place x) second)
  near-holds b j =
      let g = substitute (place x) (plus b (number (pos j))) second in
      let k = positive-substitute (place x) (plus b (number (pos j))) second positive_second in
      iff-trans (true-assertion s (evaluate g) (positive-evaluate g k)) (iff-trans (holds-evaluate (numbers s) g k) (near_is (period (place x) second 1) (numbers s) (place x) second b j scaled_second))

  low-holds : (j : ℕ) → FormTrueAt s (low_case (place x) second j) ↔ U.Holds (pos j) (U.minus_infinity (univariate (numbers s) (place x) second))
  low-holds j =
      let g = substitute (place x) (number (pos j)) (minus_infinity (place x) second) in
      let k = positive-substitute (place x) (number (pos j)) (minus_infinity (place x) second) (positive-minus_infinity (place x) second positive_second) in
      iff-trans (true-assertion s (evaluate g) (positive-evaluate g k)) (iff-trans (holds-evaluate (numbers s) g k) (low_is (period (place x) second 1) (numbers s) (place x) second j scaled_second))

  holds_at : (y : ℤ) → U.Holds y (univariate (numbers s) (place x) second) → Holds (assign (numbers s) (place x) y) second
  holds_at y h = (holds-univariate (period (place x) second 1) (numbers s) (place x) y second scaled_second).1 h

  -- the multiple of x divided by the multiple makes the assertion true
  value_true : (y : ℤ) → U.Holds y (univariate (numbers s) (place x) second) → IsTrueAt (with_value x (number_value (int_div y (pos (multiplier (place x) first 1)))) s) p
  unfolding first
  value_true y h =
      let w = back y (holds_at y h) in
      let e = exact_quotient (multiplier (place x) first 1) w.0 y (multiplier-positive (place x) first 1 (omega arith)) w.1 in
      subst (λ z. IsTrueAt (with_value x (number_value z) s) p) (sym e) w.2

  pub near_value : (b : Lin) (j : ℕ) → FormTrueAt s (near_case (place x) (evaluate (scaled_form x p)) b j)
      → IsTrueAt (with_value x (number_value (int_div (Truth.value s (plus b (number (pos j)))) (pos (multiplier (place x) (evaluate (normal true p)) 1)))) s) p
  unfolding first second
  near_value b j h =
      let e : Truth.value s (plus b (number (pos j))) ≡ value (numbers s) b +ℤ pos j = value-is s (plus b (number (pos j))) ∙ S3.value-shifted (numbers s) b (pos j) in
      subst (λ z. IsTrueAt (with_value x (number_value (int_div z (pos (multiplier (place x) first 1)))) s) p) (sym e) (value_true (value (numbers s) b +ℤ pos j) ((near-holds b j).0 h))

  pub low_true : (j : ℕ) → j ≤ period (place x) (evaluate (scaled_form x p)) 1 → FormTrueAt s (low_case (place x) (evaluate (scaled_form x p)) j)
      → IsTrueAt (with_value x (number_value (int_div (low_value (period (place x) (evaluate (scaled_form x p)) 1) j (least_limit s (place x) (evaluate (scaled_form x p)) None)) (pos (multiplier (place x) (evaluate (normal true p)) 1)))) s) p
  unfolding first second
  low_true j k h =
      let m = period (place x) second 1 in
      let a = least_limit s (place x) second None in
      let y = low_value m j a in
      let g = univariate (numbers s) (place x) second in
      let some : 0 < m = period-positive (place x) second 1 (omega arith) positive_second in
      value_true y (C.low_works m g j y (divisors m (numbers s) (place x) second scaled_second) ((low-holds j).0 h) (congruent-low_value m j a some k)
      ((low_within s (place x) second None y (within-low_value m j a)).0))

  pub no_value : NoneLow s (place x) (evaluate (scaled_form x p)) (period (place x) (evaluate (scaled_form x p)) 1)
      → ((b : Lin) → Contains (distinct_bounds (place x) (evaluate (scaled_form x p))) b → NoneNear s (place x) (evaluate (scaled_form x p)) (period (place x) (evaluate (scaled_form x p)) 1) b)
      → (y : ℤ) → ¬ (IsTrueAt (with_value x (number_value y) s) p)
  unfolding first second
  no_value low near y h =
      let f = second in
      let n = place x in
      let m = period n f 1 in
      let bs = distinct_bounds n f in
      let whole = (holds-evaluate (numbers s) (cooper m bs n f) (positive-cooper m bs n f positive_second)).0 ((elimination_is x p s q r).0 (y, h)) in
      let i = S3.instances_in (numbers s) n f bs m ((holds-some_of (numbers s) (cases_to n f bs m)).0 whole) in
      elim i.3 [
        | inl l ↦ low i.0 i.1 i.2 ((low-holds i.0).1 ((low_is m (numbers s) n f i.0 scaled_second).0 l))
        | inr l ↦ (let w = S3.any_of-map_in (numbers s) (λ b. substitute n (plus b (number (pos i.0))) f) bs l in
            near w.0 w.1 i.0 i.1 i.2 ((near-holds w.0 i.0).1 ((near_is m (numbers s) n f w.0 i.0 scaled_second).0 w.2)))
      ]
