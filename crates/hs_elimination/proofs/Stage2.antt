-- Stage 2 keeps truth.
use Rattle.std.proofs.Common.{◌≡◌, ℕ, zero, suc, ◌*◌, ◌/◌, ◌<◌, inl, inr, ◌↔◌, refl, sym, ap, ◌∙◌, subst, arith, ℤ, pos, negsuc, ◌+ℤ◌, ◌*ℤ◌, neg_ℤ, ◌<ℤ◌}
use Rattle.std.proofs.lemmas.Int.{ints}
use Rattle.std.proofs.Math.Nat.{div-eq_of_eq-mul_right, eq_of_mul-eq-mul_right}
use borrow.Author.Differences.{up, down, product_is, same_in}
use Rattle.hs_elimination.proofs.Integers.{ring}
use Rattle.hs_elimination.proofs.Meaning.{Assignment, Holds, IsCommonMultiple, HasCoefficient, RisesFrom, assign, value}
use Rattle.hs_elimination.proofs.Univariate.{Divides}
use Rattle.hs_elimination.proofs.Values.{assign-same, value-assign, value-plus, value-rest, value-times}
use Rattle.hs_elimination.specs.Form.{Form, conjunction, const, disjunction, multiple, no_multiple, positive}
use Rattle.hs_elimination.specs.Linear.{coefficient, place, plus, rest, single, times}
use Rattle.hs_elimination.specs.Scaling.{factor, scale, scale_by, scale_lin, scaled}
use Rattle.hs_pure.specs.declared.lin.Lin.{Lin}
use Rattle.hs_pure.specs.declared.var.Var.{Var}

-- ---- numbers
quotient : (l q n : ℕ) → l ≡ q * suc n → l / suc n ≡ q
quotient l q n e = let h : 0 < suc n = omega arith in let m : l ≡ suc n * q = omega arith in div-eq_of_eq-mul_right h m

positive_times_suc : (n : ℕ) (z : ℤ) → (pos 0 <ℤ (pos (suc n) *ℤ z)) ↔ (pos 0 <ℤ z)
positive_times_suc n (pos zero) = (λ h. omega (arith, ints), λ h. omega (arith, ints))
positive_times_suc n (pos (suc m)) = (λ h. omega (arith, ints), λ h. omega (arith, ints))
positive_times_suc n (negsuc m) = (λ h. omega (arith, ints), λ h. omega (arith, ints))

positive_times : (q : ℕ) (z : ℤ) → 0 < q → (pos 0 <ℤ (pos q *ℤ z)) ↔ (pos 0 <ℤ z)
positive_times zero z h = absurd (omega arith)
positive_times (suc n) z h = positive_times_suc n z

reorder : (a b c : ℤ) → c *ℤ (a *ℤ b) ≡ a *ℤ (b *ℤ c)
reorder a b c = simp ring

divides_times : (d q : ℕ) (z : ℤ) → Divides d z → Divides (d * q) (pos q *ℤ z)
divides_times d q z h = (h.0, ap (λ z. pos q *ℤ z) h.1 ∙ reorder h.0 (pos d) (pos q))

cancel : (q : ℕ) (a b : ℤ) → 0 < q → pos q *ℤ a ≡ pos q *ℤ b → a ≡ b
cancel q a b h e =
    let u : up a * q ≡ up b * q = omega (arith, ap up e, product_is (pos q) a, product_is (pos q) b) in
    let d : down a * q ≡ down b * q = omega (arith, ap down e, product_is (pos q) a, product_is (pos q) b) in
    let u' = eq_of_mul-eq-mul_right q h (up a) (up b) u in
    let d' = eq_of_mul-eq-mul_right q h (down a) (down b) d in
    same_in a b (omega arith)

divides_cancel : (d q : ℕ) (z : ℤ) → 0 < q → Divides (d * q) (pos q *ℤ z) → Divides d z
divides_cancel d q z h p = (p.0, cancel q z (p.0 *ℤ pos d) h (p.1 ∙ sym (reorder p.0 (pos d) (pos q))))

-- ---- a scaled term
pub factor_positive : (l : ℕ) (c : ℤ) → 0 < l → HasCoefficient l c → 0 < factor l c
factor_positive l (pos zero) h m = omega arith
factor_positive l (pos (suc n)) h m = rw (quotient l m.0 n m.1) (not_zero m.0 m.1)
  where
    not_zero : (q : ℕ) → l ≡ q * suc n → 0 < q
    not_zero zero e = omega arith
    not_zero (suc q) e = omega arith
factor_positive l (negsuc n) h m = rw (quotient l m.0 n m.1) (not_zero m.0 m.1)
  where
    not_zero : (q : ℕ) → l ≡ q * suc n → 0 < q
    not_zero zero e = omega arith
    not_zero (suc q) e = omega arith

value-single : (s : Assignment) (x : Var) (c y : ℤ) → value (assign s (place x) y) (single x c) ≡ c *ℤ y
value-single s x c y = rw (assign-same s (place x) y) (plus_zeros (c *ℤ y))
  where
    plus_zeros : (a : ℤ) → a +ℤ pos 0 +ℤ pos 0 ≡ a
    plus_zeros a = omega (arith, ints)

one_left : (a : ℤ) → pos 1 *ℤ a ≡ a
one_left a = omega (arith, ints)

minus_left : (a : ℤ) → negsuc 0 *ℤ a ≡ neg_ℤ a
minus_left a = omega (arith, ints)

join_up : (a q y r : ℤ) → pos 1 *ℤ ((q *ℤ a) *ℤ y) +ℤ q *ℤ r ≡ q *ℤ (a *ℤ y +ℤ r)
join_up a q y r = simp one_left (simp ring)

join_down : (a q y r : ℤ) → negsuc 0 *ℤ ((q *ℤ a) *ℤ y) +ℤ q *ℤ r ≡ q *ℤ (neg_ℤ a *ℤ y +ℤ r)
join_down a q y r = simp minus_left (simp ring)

unit_term : (s : Assignment) (x : Var) (l n q : ℕ) (u c y : ℤ) (t : Lin) → l ≡ q * suc n → u *ℤ (pos l *ℤ y) +ℤ pos q *ℤ value s (rest (place x) t) ≡ pos q *ℤ (c *ℤ y +ℤ value s (rest (place x) t)) → value (assign s (place x) (pos l *ℤ y)) (plus (single x u) (times (pos (l / suc n)) (rest (place x) t))) ≡ pos (l / suc n) *ℤ (c *ℤ y +ℤ value s (rest (place x) t))
unit_term s x l n q u c y t is e =
    rw (quotient l q n is) (
    value-plus (assign s (place x) (pos l *ℤ y)) (single x u) (times (pos q) (rest (place x) t))
    ∙ ap (λ z. z +ℤ value (assign s (place x) (pos l *ℤ y)) (times (pos q) (rest (place x) t))) (value-single s x u (pos l *ℤ y))
    ∙ ap (λ z. u *ℤ (pos l *ℤ y) +ℤ z) (value-times (assign s (place x) (pos l *ℤ y)) (pos q) (rest (place x) t) ∙ ap (λ z. pos q *ℤ z) (value-rest s (place x) (pos l *ℤ y) t))
    ∙ e)

term_by : (s : Assignment) (x : Var) (l : ℕ) (y : ℤ) (t : Lin) (c : ℤ) → RisesFrom 0 t.terms → HasCoefficient l c → value (assign s (place x) y) t ≡ c *ℤ y +ℤ value s (rest (place x) t) → (coefficient (place x) t.terms ≡ c) → value (assign s (place x) (pos l *ℤ y)) (scale_by l x c (rest (place x) t) t) ≡ pos (factor l c) *ℤ value (assign s (place x) y) t
term_by s x l y t (pos zero) r m v e =
    value-assign s (place x) (pos l *ℤ y) t r ∙ ap (λ c. c *ℤ (pos l *ℤ y) +ℤ value s (rest (place x) t)) e ∙ both_none (pos l *ℤ y) y (value s (rest (place x) t)) ∙ ap (λ z. pos 1 *ℤ z) (sym v)
  where
    both_none : (a b r : ℤ) → pos 0 *ℤ a +ℤ r ≡ pos 1 *ℤ (pos 0 *ℤ b +ℤ r)
    both_none a b r = omega (arith, ints)
term_by s x l y t (pos (suc n)) r m v e =
    unit_term s x l n m.0 (pos 1) (pos (suc n)) y t m.1 (ap (λ (k : ℕ). pos 1 *ℤ (pos k *ℤ y) +ℤ pos m.0 *ℤ value s (rest (place x) t)) m.1 ∙ join_up (pos (suc n)) (pos m.0) y (value s (rest (place x) t))) ∙ ap (λ z. pos (l / suc n) *ℤ z) (sym v)
term_by s x l y t (negsuc n) r m v e =
    unit_term s x l n m.0 (negsuc 0) (negsuc n) y t m.1 (ap (λ (k : ℕ). negsuc 0 *ℤ (pos k *ℤ y) +ℤ pos m.0 *ℤ value s (rest (place x) t)) m.1 ∙ join_down (pos (suc n)) (pos m.0) y (value s (rest (place x) t))) ∙ ap (λ z. pos (l / suc n) *ℤ z) (sym v)

value-scale_lin : (s : Assignment) (x : Var) (l : ℕ) (y : ℤ) (t : Lin) → RisesFrom 0 t.terms → HasCoefficient l (coefficient (place x) t.terms) → value (assign s (place x) (pos l *ℤ y)) (scale_lin l x t) ≡ pos (factor l (coefficient (place x) t.terms)) *ℤ value (assign s (place x) y) t
value-scale_lin s x l y t r m = term_by s x l y t (coefficient (place x) t.terms) r m (value-assign s (place x) y t r) refl

-- ---- the formula
divides_scaled : (d q : ℕ) (a z : ℤ) → 0 < q → a ≡ pos q *ℤ z → Divides (d * q) a ↔ Divides d z
divides_scaled d q a z h e = (λ p. divides_cancel d q z h (subst (Divides (d * q)) e p), λ p. subst (Divides (d * q)) (sym e) (divides_times d q z p))

pub holds-scale : (s : Assignment) (x : Var) (l : ℕ) (y : ℤ) (f : Form) → 0 < l → IsCommonMultiple l (place x) f → Holds (assign s (place x) (pos l *ℤ y)) (scale l x f) ↔ Holds (assign s (place x) y) f
holds-scale s x l y (const b) h m = (λ p. p, λ p. p)
holds-scale s x l y (positive t) h m =
    let q = factor l (coefficient (place x) t.terms) in
    let e = value-scale_lin s x l y t m.0 m.1 in
    let i = positive_times q (value (assign s (place x) y) t) (factor_positive l (coefficient (place x) t.terms) h m.1) in
    (λ p. i.0 (subst (λ z. pos 0 <ℤ z) e p), λ p. subst (λ z. pos 0 <ℤ z) (sym e) (i.1 p))
holds-scale s x l y (multiple d t) h m =
    divides_scaled d (factor l (coefficient (place x) t.terms)) _ _ (factor_positive l (coefficient (place x) t.terms) h m.1) (value-scale_lin s x l y t m.0 m.1)
holds-scale s x l y (no_multiple d t) h m =
    let i = divides_scaled d (factor l (coefficient (place x) t.terms)) _ _ (factor_positive l (coefficient (place x) t.terms) h m.1) (value-scale_lin s x l y t m.0 m.1) in
    (λ p q. p (i.1 q), λ p q. p (i.0 q))
holds-scale s x l y (conjunction f g) h m =
    let i = holds-scale s x l y f h m.0 in
    let j = holds-scale s x l y g h m.1 in
    (λ p. (i.0 p.0, j.0 p.1), λ p. (i.1 p.0, j.1 p.1))
holds-scale s x l y (disjunction f g) h m =
    let i = holds-scale s x l y f h m.0 in
    let j = holds-scale s x l y g h m.1 in
    (λ p. elim p [ inl a ↦ inl (i.0 a) | inr b ↦ inr (j.0 b) ], λ p. elim p [ inl a ↦ inl (i.1 a) | inr b ↦ inr (j.1 b) ])

turn : (a b : ℤ) → pos 1 *ℤ (a *ℤ b) ≡ b *ℤ a
turn a b = simp one_left (simp ring)

times_comm : (a b : ℤ) → a *ℤ b ≡ b *ℤ a
times_comm a b = simp ring

one_is : (a : ℤ) → a ≡ pos 1 *ℤ a
one_is a = omega (arith, ints)

-- some x makes f true exactly where some multiple of l, for l * x, makes the scaled formula true
pub stage2 : (l : ℕ) (x : Var) (f : Form) (s : Assignment) → 0 < l → IsCommonMultiple l (place x) f → ((y : ℤ) × Holds (assign s (place x) y) f) ↔ ((y : ℤ) × Holds (assign s (place x) y) (scaled l x f))
stage2 l x f s h m = (
  λ w. (pos l *ℤ w.0, ((holds-scale s x l w.0 f h m).1 w.1, (w.0, value-single s x (pos 1) (pos l *ℤ w.0) ∙ turn (pos l) w.0))),
  λ w.
      let q = w.1.1.0 in
      let e : w.0 ≡ pos l *ℤ q = one_is w.0 ∙ sym (value-single s x (pos 1) w.0) ∙ w.1.1.1 ∙ times_comm q (pos l) in
      (q, (holds-scale s x l q f h m).0 (subst (λ z. Holds (assign s (place x) z) (scale l x f)) e w.1.0)),
)

-- a value for the scaled formula is a multiple of l, and the quotient is one for f
pub stage2-back : (l : ℕ) (x : Var) (f : Form) (s : Assignment) → 0 < l → IsCommonMultiple l (place x) f → (y : ℤ) → Holds (assign s (place x) y) (scaled l x f) → (q : ℤ) × (y ≡ pos l *ℤ q) × Holds (assign s (place x) q) f
stage2-back l x f s h m y w =
    let q = w.1.0 in
    let e : y ≡ pos l *ℤ q = one_is y ∙ sym (value-single s x (pos 1) y) ∙ w.1.1 ∙ times_comm q (pos l) in
    (q, e, (holds-scale s x l q f h m).0 (subst (λ z. Holds (assign s (place x) z) (scale l x f)) e w.0))
