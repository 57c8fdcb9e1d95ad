-- Division of a row by a divisor of its coefficients.
use Rattle.std.proofs.Common.{◌≡◌, ℕ, zero, suc, ◌*◌, ◌≤◌, refl, sym, ap, ◌∙◌, subst, arith, ℤ, pos, negsuc, ◌+ℤ◌, ◌*ℤ◌, ◌≤ℤ◌, ◌<ℤ◌, neg_ℤ}
use Rattle.std.proofs.lemmas.Int.{ints}
use Rattle.std.proofs.Math.IntN.{*ℤ-negsuc, pos-*ℤ-pos}
use Rattle.std.proofs.Math.Nat.{le-mul_of_pos_right}
use Rattle.hs_elimination.proofs.Integers.{ring}
use Rattle.hs_equations.specs.declared.row.Kind.{Kind}
use Rattle.hs_equations.specs.declared.row.Kind.TheVariants.{Zero, Least, Apart}
use Rattle.hs_equations.specs.Rows.{Says, IsEven}

drop_below : (p q : ℕ) → q ≤ p → (neg_ℤ (pos p) +ℤ pos q) ≤ℤ pos 0
drop_below p q h = omega (arith, ints)

longer : (m n : ℕ) → suc m ≤ suc m * suc n
longer m n = le-mul_of_pos_right (suc m) (omega arith)

below : (m n : ℕ) → (pos (suc m) *ℤ negsuc n +ℤ pos (suc m)) ≤ℤ pos 0
below m n =
    let e : pos (suc m) *ℤ negsuc n ≡ neg_ℤ (pos (suc m * suc n)) = *ℤ-negsuc (pos (suc m)) n ∙ ap neg_ℤ (pos-*ℤ-pos (suc m) (suc n)) in
    subst (λ z. (z +ℤ pos (suc m)) ≤ℤ pos 0) (sym e) (drop_below (suc m * suc n) (suc m) (longer m n))

above_first : (p q : ℕ) → q ≤ p → pos q ≤ℤ pos p
above_first p q h = omega (arith, ints)

above : (m n : ℕ) → pos (suc m) ≤ℤ (pos (suc m) *ℤ pos (suc n))
above m n = subst (λ z. pos (suc m) ≤ℤ z) (sym (pos-*ℤ-pos (suc m) (suc n))) (above_first (suc m * suc n) (suc m) (longer m n))

clash_below : (p g r : ℤ) → (p +ℤ g) ≤ℤ pos 0 → r <ℤ g → pos 0 ≤ℤ (p +ℤ r) → ⊥
clash_below p g r h k l = omega (arith, ints)

clash_above : (p g r : ℤ) → pos 0 <ℤ g → g ≤ℤ p → pos 0 ≤ℤ r → p +ℤ r ≡ pos 0 → ⊥
clash_above p g r o h k l = omega (arith, ints)

natural_least : (n : ℕ) → pos 0 ≤ℤ pos n
natural_least n = omega (arith, ints)

no_zero : pos 0 <ℤ pos 0 → ⊥
no_zero h = omega (arith, ints)

no_negative : (m : ℕ) → pos 0 <ℤ negsuc m → ⊥
no_negative m h = omega (arith, ints)

from_same : (a : ℤ) → a ≡ pos 0 → pos 0 ≤ℤ a
from_same a e = omega (arith, ints)

quotient_least : (g z r : ℤ) → pos 0 <ℤ g → r <ℤ g → pos 0 ≤ℤ (g *ℤ z +ℤ r) → pos 0 ≤ℤ z
quotient_least g (pos n) r h k l = natural_least n
quotient_least (pos zero) (negsuc n) r h k l = absurd (no_zero h)
quotient_least (pos (suc m)) (negsuc n) r h k l = absurd (clash_below (pos (suc m) *ℤ negsuc n) (pos (suc m)) r (below m n) k l)
quotient_least (negsuc m) (negsuc n) r h k l = absurd (no_negative m h)

quotient_zero : (g z r : ℤ) → pos 0 <ℤ g → pos 0 ≤ℤ r → r <ℤ g → g *ℤ z +ℤ r ≡ pos 0 → z ≡ pos 0
quotient_zero g (pos zero) r h o k e = refl
quotient_zero (pos zero) (pos (suc n)) r h o k e = absurd (no_zero h)
quotient_zero (pos (suc m)) (pos (suc n)) r h o k e = absurd (clash_above (pos (suc m) *ℤ pos (suc n)) (pos (suc m)) r h (above m n) o e)
quotient_zero (negsuc m) (pos (suc n)) r h o k e = absurd (no_negative m h)
quotient_zero (pos zero) (negsuc n) r h o k e = absurd (no_zero h)
quotient_zero (pos (suc m)) (negsuc n) r h o k e = absurd (clash_below (pos (suc m) *ℤ negsuc n) (pos (suc m)) r (below m n) k (from_same (pos (suc m) *ℤ negsuc n +ℤ r) e))
quotient_zero (negsuc m) (negsuc n) r h o k e = absurd (no_negative m h)

nothing_left : (g r : ℤ) → g *ℤ pos 0 +ℤ r ≡ pos 0 → r ≡ pos 0
nothing_left g r e = omega (arith, ints)

product_zero : (g : ℤ) → g *ℤ pos 0 +ℤ pos 0 ≡ pos 0
product_zero g = omega (arith, ints)

put_out : (g t q r : ℤ) → g *ℤ t +ℤ (g *ℤ q +ℤ r) ≡ g *ℤ (t +ℤ q) +ℤ r
put_out g t q r = simp ring (omega (arith, ints))

module _ (g q r c d sum t : ℤ) (positive : pos 0 <ℤ g) (c_is : c ≡ g *ℤ q +ℤ r) (low : pos 0 ≤ℤ r) (high : r <ℤ g) (sum_is : sum ≡ g *ℤ t) (d_is : d ≡ q) where
  value_is : sum +ℤ c ≡ g *ℤ (t +ℤ d) +ℤ r
  value_is = (λ i. sum_is i +ℤ c_is i) ∙ put_out g t q r ∙ ap (λ z. g *ℤ (t +ℤ z) +ℤ r) (sym d_is)

  pub divided-met : (kind : Kind) → IsEven kind r → Says kind (sum +ℤ c) → Says kind (t +ℤ d)
  divided-met Zero e h = quotient_zero g (t +ℤ d) r positive low high (sym value_is ∙ h)
  divided-met Least e h = quotient_least g (t +ℤ d) r positive high (subst (λ z. pos 0 ≤ℤ z) value_is h)
  divided-met Apart e h = λ z_is. h (value_is ∙ ap (λ z. g *ℤ z +ℤ r) z_is ∙ ap (λ z. g *ℤ pos 0 +ℤ z) e ∙ product_zero g)

  pub uneven-met : (kind : Kind) (one : ℤ) → one ≡ pos 1 → ¬ (IsEven kind r) → Says kind (sum +ℤ c) → Says kind one
  uneven-met Zero one is n h =
      let whole : t +ℤ d ≡ pos 0 = quotient_zero g (t +ℤ d) r positive low high (sym value_is ∙ h) in
      absurd (n (nothing_left g r (ap (λ z. g *ℤ z +ℤ r) (sym whole) ∙ sym value_is ∙ h)))
  uneven-met Least one is n h = absurd (n tt)
  uneven-met Apart one is n h = λ z. absurd (one_zero (sym is ∙ z))
    where
      one_zero : pos 1 ≡ pos 0 → ⊥
      one_zero e = omega (arith, ints)

pub zero-part : (k v a r : ℤ) → v ≡ pos 0 → r ≡ k *ℤ v +ℤ a → r ≡ a
zero-part k v a r v_is r_is = r_is ∙ ap (λ z. k *ℤ z +ℤ a) v_is ∙ none k a
  where
    none : (k a : ℤ) → k *ℤ pos 0 +ℤ a ≡ a
    none k a = omega (arith, ints)
