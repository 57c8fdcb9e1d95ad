-- Cooper's theorem for one variable.
use Rattle.std.proofs.Common.{◌≡◌, ℕ, zero, suc, ◌+◌, ◌*◌, ◌-◌, ◌<◌, ◌≤◌, ◌⊎◌, inl, inr, refl, sym, ap, ◌∙◌, subst, arith, pos, negsuc, ◌+ℤ◌, ◌-ℤ◌, ◌*ℤ◌, neg_ℤ, ◌≤ℤ◌, ◌<ℤ◌, ◌↔◌}
use Rattle.std.proofs.lemmas.Int.{ints, clamps, by_lt_z}
use Rattle.std.specs.Prelude.{ℤ}
use Rattle.std.specs.Int.{int_min}
use Rattle.hs_elimination.proofs.Univariate.{Form, const, above, below, multiple, no_multiple, both, either, Divides, Holds, minus_infinity, IsLowerBound, DivisorsDivide, HasInstance, IsLow, IsCongruent}
use Rattle.hs_elimination.proofs.Integers.{ring, mul-sum_left, mul-neg_left, mul_assoc}
use Rattle.std.proofs.Math.IntN.{nat_abs}
use Rattle.std.proofs.Math.Nat.{le-mul_of_pos_right}
use Prim.Native.Nat.{◌%◌, ◌/◌}

-- ---- the minus-infinity form has the period m
shift_divides : (d c : ℕ) (m : ℕ) (z k : ℤ) → m ≡ c * d → Divides d z → Divides d (z +ℤ k *ℤ pos m)
shift_divides d c m z k e h = (h.0 +ℤ k *ℤ pos c, rw (h.1, e) (sym (mul-sum_left h.0 (k *ℤ pos c) (pos d) ∙ ap (λ x. h.0 *ℤ pos d +ℤ x) (mul_assoc k (pos c) (pos d)))))

swap_last : (x y z : ℤ) → (x +ℤ y) +ℤ z ≡ (x +ℤ z) +ℤ y
swap_last x y z = omega (arith, ints)

shift_multiple : (d m : ℕ) (t x k : ℤ) → ((c : ℕ) × (m ≡ c * d)) → Divides d (x +ℤ t) → Divides d ((x +ℤ k *ℤ pos m) +ℤ t)
shift_multiple d m t x k c h = subst (Divides d) (swap_last x t (k *ℤ pos m)) (shift_divides d c.0 m (x +ℤ t) k c.1 h)

unshift : (x k y : ℤ) → (x +ℤ k *ℤ y) +ℤ neg_ℤ k *ℤ y ≡ x
unshift x k y = simp ring (omega (arith, ints))

pub period : (m : ℕ) (f : Form) (x k : ℤ) → DivisorsDivide m f → Holds x (minus_infinity f) → Holds (x +ℤ k *ℤ pos m) (minus_infinity f)
period m (const b) x k d h = h
period m (above b) x k d h = h
period m (below a) x k d h = h
period m (multiple e t) x k d h = shift_multiple e m t x k d h
period m (no_multiple e t) x k d h = λ p. h (subst (λ (y : ℤ). Divides e (y +ℤ t)) (unshift x k (pos m)) (shift_multiple e m t (x +ℤ k *ℤ pos m) (neg_ℤ k) d p))
period m (both f g) x k d h = (period m f x k d.0 h.0, period m g x k d.1 h.1)
period m (either f g) x k d (inl h) = inl (period m f x k d.0 h)
period m (either f g) x k d (inr h) = inr (period m g x k d.1 h)

-- ---- at or below its floor, f is its minus-infinity form
pub floor : Form → ℤ
floor (const b) = pos 0
floor (above b) = b
floor (below a) = a -ℤ pos 1
floor (multiple d t) = pos 0
floor (no_multiple d t) = pos 0
floor (both f g) = int_min (floor f) (floor g)
floor (either f g) = int_min (floor f) (floor g)

min_left : (x a b : ℤ) → x ≤ℤ int_min a b → x ≤ℤ a
min_left x a b h = omega (arith, ints, clamps)

min_right : (x a b : ℤ) → x ≤ℤ int_min a b → x ≤ℤ b
min_right x a b h = omega (arith, ints, clamps)

clash : {X : Type 0} (a b : ℤ) → a <ℤ b → b ≤ℤ a → X
clash a b h k = absurd (omega (arith, ints))

before : (x a : ℤ) → x ≤ℤ (a -ℤ pos 1) → x <ℤ a
before x a h = omega (arith, ints)

pub agree : (f : Form) (x : ℤ) → x ≤ℤ floor f → Holds x f ↔ Holds x (minus_infinity f)
unfolding floor
agree (const b) x h = (λ p. p, λ p. p)
agree (above b) x h = (λ p. clash b x p h, λ p. absurd p)
agree (below a) x h = (λ p. tt, λ p. before x a h)
agree (multiple d t) x h = (λ p. p, λ p. p)
agree (no_multiple d t) x h = (λ p. p, λ p. p)
agree (both f g) x h =
    let l = agree f x (min_left x (floor f) (floor g) h) in
    let r = agree g x (min_right x (floor f) (floor g) h) in
    (λ p. (l.0 p.0, r.0 p.1), λ p. (l.1 p.0, r.1 p.1))
agree (either f g) x h =
    let l = agree f x (min_left x (floor f) (floor g) h) in
    let r = agree g x (min_right x (floor f) (floor g) h) in
    (λ p. elim p [ inl a ↦ inl (l.0 a) | inr b ↦ inr (r.0 b) ], λ p. elim p [ inl a ↦ inl (l.1 a) | inr b ↦ inr (r.1 b) ])

-- ---- m lower f still holds, unless x is one of the instances
abbrev pub Near : ℕ → Form → ℤ → Type 0
Near m f x = (j : ℕ) × (1 ≤ j) × (j ≤ m) × (b : ℤ) × IsLowerBound f b × (x ≡ b +ℤ pos j)

to_left : (m : ℕ) (f g : Form) (x : ℤ) → Near m f x → Near m (both f g) x
to_left m f g x n = (n.0, n.1, n.2, n.3, inl n.4, n.5)

to_right : (m : ℕ) (f g : Form) (x : ℤ) → Near m g x → Near m (both f g) x
to_right m f g x n = (n.0, n.1, n.2, n.3, inr n.4, n.5)

near_above : (m : ℕ) (b x : ℤ) → b <ℤ x → x ≤ℤ (b +ℤ pos m) → Near m (above b) x
near_above m b x h k = (nat_abs (x -ℤ b), omega (arith, ints), omega (arith, ints), b, refl, omega (arith, ints))

step_above : (m : ℕ) (b x : ℤ) → b <ℤ x → (b <ℤ (x -ℤ pos m)) ⊎ Near m (above b) x
step_above m b x h = by_lt_z b (x -ℤ pos m) inl (λ k. inr (near_above m b x h (omega (arith, ints))))

step_below : (m : ℕ) (a x : ℤ) → x <ℤ a → (x -ℤ pos m) <ℤ a
step_below m a x h = omega (arith, ints)

one_down : (x : ℤ) (m : ℕ) → x +ℤ negsuc 0 *ℤ pos m ≡ x -ℤ pos m
one_down x m = omega (arith, ints)

pub step : (m : ℕ) (f : Form) (x : ℤ) → DivisorsDivide m f → Holds x f → Holds (x -ℤ pos m) f ⊎ Near m f x
step m (const b) x d h = inl h
step m (above b) x d h = step_above m b x h
step m (below a) x d h = inl (step_below m a x h)
step m (multiple e t) x d h = inl (subst (λ (y : ℤ). Divides e (y +ℤ t)) (one_down x m) (period m (multiple e t) x (negsuc 0) d h))
step m (no_multiple e t) x d h = inl (subst (λ (y : ℤ). ¬ (Divides e (y +ℤ t))) (one_down x m) (period m (no_multiple e t) x (negsuc 0) d h))
step m (both f g) x d h =
    elim (step m f x d.0 h.0) [
      | inl p ↦ elim (step m g x d.1 h.1) [ inl q ↦ inl (p, q) | inr n ↦ inr (to_right m f g x n) ]
      | inr n ↦ inr (to_left m f g x n)
    ]
step m (either f g) x d (inl h) = elim (step m f x d.0 h) [ inl p ↦ inl (inl p) | inr n ↦ inr (to_left m f g x n) ]
step m (either f g) x d (inr h) = elim (step m g x d.1 h) [ inl p ↦ inl (inr p) | inr n ↦ inr (to_right m f g x n) ]

-- f holds at an instance of a lower bound
abbrev pub FoundNear : ℕ → Form → Type 0
FoundNear m f = (x : ℤ) × Near m f x × Holds x f

zero_down : (x : ℤ) (m : ℕ) → x -ℤ pos (0 * m) ≡ x
zero_down x m = omega (arith, ints)

more_down : (x : ℤ) (n m : ℕ) → (x -ℤ pos (n * m)) -ℤ pos m ≡ x -ℤ pos (suc n * m)
more_down x n m = omega (arith, ints)

pub descend : (m : ℕ) (f : Form) (x : ℤ) (n : ℕ) → DivisorsDivide m f → Holds x f → Holds (x -ℤ pos (n * m)) f ⊎ FoundNear m f
descend m f x zero d h = inl (subst (λ (y : ℤ). Holds y f) (sym (zero_down x m)) h)
descend m f x (suc n) d h =
    elim (descend m f x n d h) [
      | inl p ↦ elim (step m f (x -ℤ pos (n * m)) d p) [
        | inl q ↦ inl (subst (λ (y : ℤ). Holds y f) (more_down x n m) q)
        | inr near ↦ inr (x -ℤ pos (n * m), near, p)
      ]
      | inr found ↦ inr found
    ]

-- ---- each integer has a number from 1 to m that differs from it by a multiple of m
abbrev pub Residue : ℕ → ℤ → Type 0
Residue m y = (j : ℕ) × (1 ≤ j) × (j ≤ m) × (k : ℤ) × (y +ℤ k *ℤ pos m ≡ pos j)

pub residue : (m : ℕ) (y : ℤ) → 0 < m → Residue m y
residue m (pos zero) h = (m, h, omega arith, pos 1, omega (arith, ints))
residue m (pos (suc n)) h = (n % m + 1, omega arith, omega arith, neg_ℤ (pos (n / m)), rw mul-neg_left (omega (arith, ints)))
residue m (negsuc n) h = (m - suc n % m, omega arith, omega arith, pos (suc n / m + 1), omega (arith, ints))

-- ---- the theorem
to_floor : (x l : ℤ) (m : ℕ) → 0 < m → (x -ℤ pos (nat_abs (x -ℤ l) * m)) ≤ℤ l
to_floor x l m h = omega (arith, ints, le-mul_of_pos_right (nat_abs (x -ℤ l)) h)

pub instance_from_solution : (m : ℕ) (bs : ℤ → Type 0) (f : Form) → 0 < m → DivisorsDivide m f → ((b : ℤ) → IsLowerBound f b → bs b) → (x : ℤ) → Holds x f → HasInstance m bs f
instance_from_solution m bs f h d all x p =
    elim (descend m f x (nat_abs (x -ℤ floor f)) d p) [
      | inl low ↦
          let y = x -ℤ pos (nat_abs (x -ℤ floor f) * m) in
          let r : Residue m y = residue m y h in
          (r.0, r.1, r.2, inl (subst (λ (z : ℤ). Holds z (minus_infinity f)) r.4 (period m f y r.3 d ((agree f y (to_floor x (floor f) m h)).0 low))))
      | inr found ↦
          let near = found.1 in
          (near.0, near.1, near.2, inr (near.3, all near.3 near.4, subst (λ (z : ℤ). Holds z f) near.5 found.2))
    ]

pub solution_from_instance : (m : ℕ) (bs : ℤ → Type 0) (f : Form) → 0 < m → DivisorsDivide m f → HasInstance m bs f → (x : ℤ) × Holds x f
solution_from_instance m bs f h d i =
    elim i.3 [
      | inl low ↦
          let j = pos i.0 in
          let k = neg_ℤ (pos (nat_abs (j -ℤ floor f))) in
          (j +ℤ k *ℤ pos m, (agree f (j +ℤ k *ℤ pos m) (rw mul-neg_left (to_floor j (floor f) m h))).1 (period m f j k d low))
      | inr near ↦ (near.0 +ℤ pos i.0, near.2)
    ]

pub cooper : (m : ℕ) (bs : ℤ → Type 0) (f : Form) → 0 < m → DivisorsDivide m f → ((b : ℤ) → IsLowerBound f b → bs b) → ((x : ℤ) × Holds x f) ↔ HasInstance m bs f
cooper m bs f h d all = (λ s. instance_from_solution m bs f h d all s.0 s.1, solution_from_instance m bs f h d)

-- ---- plain values
pub agree_low : (f : Form) (y : ℤ) → IsLow y f → Holds y f ↔ Holds y (minus_infinity f)
agree_low (const b) y h = (λ p. p, λ p. p)
agree_low (above b) y h = (λ p. clash b y p h, λ p. absurd p)
agree_low (below a) y h = (λ p. tt, λ p. h)
agree_low (multiple d t) y h = (λ p. p, λ p. p)
agree_low (no_multiple d t) y h = (λ p. p, λ p. p)
agree_low (both f g) y h =
    let l = agree_low f y h.0 in
    let r = agree_low g y h.1 in
    (λ p. (l.0 p.0, r.0 p.1), λ p. (l.1 p.0, r.1 p.1))
agree_low (either f g) y h =
    let l = agree_low f y h.0 in
    let r = agree_low g y h.1 in
    (λ p. elim p [ inl a ↦ inl (l.0 a) | inr b ↦ inr (r.0 b) ], λ p. elim p [ inl a ↦ inl (l.1 a) | inr b ↦ inr (r.1 b) ])

-- the value that is taken where no sum b + j works
pub low_works : (m : ℕ) (f : Form) (j : ℕ) (y : ℤ) → DivisorsDivide m f → Holds (pos j) (minus_infinity f) → IsCongruent m y (pos j) → IsLow y f → Holds y f
low_works m f j y d h c l = (agree_low f y l).1 (subst (λ (z : ℤ). Holds z (minus_infinity f)) (sym c.1) (period m f (pos j) c.0 d h))
