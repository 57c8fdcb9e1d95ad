-- Divisibility by absolute values.
use Rattle.std.proofs.Common.{◌≡◌, ℕ, suc, ◌+◌, ◌*◌, ◌/◌, ◌%◌, ℤ, pos, negsuc, ◌*ℤ◌, ◌≤ℤ◌, neg_ℤ, ◌↔◌, IsTrue, eqb, eq-eqb, eqb-true, refl, sym, ap, ◌∙◌, arith, unsigned_abs}
use Rattle.std.proofs.lemmas.Int.{ints, unsigned_abs-mul}
use Rattle.std.proofs.Math.Nat.{mul-mod_left, div-add-mod}
use borrow.Author.Differences.{up, down, product_is, neg_is, same_in}

up-product : (a b : ℤ) → up (a *ℤ b) ≡ up a * up b + down a * down b
up-product a b = (product_is a b).0

down-product : (a b : ℤ) → down (a *ℤ b) ≡ up a * down b + down a * up b
down-product a b = (product_is a b).1

up-neg : (a : ℤ) → up (neg_ℤ a) ≡ down a
up-neg a = (neg_is a).0

down-neg : (a : ℤ) → down (neg_ℤ a) ≡ up a
down-neg a = (neg_is a).1

mul-neg_left : (a b : ℤ) → neg_ℤ a *ℤ b ≡ neg_ℤ (a *ℤ b)
mul-neg_left a b = same_in _ _ (simp (up-product, down-product, up-neg, down-neg) (omega arith))

pos-mul : (a b : ℕ) → pos a *ℤ pos b ≡ pos (a * b)
pos-mul a b = refl

quotient : (n m : ℕ) → n % m ≡ 0 → n ≡ (n / m) * m
quotient n m e = omega (arith, div-add-mod n m)

-- the absolute value of a multiple
multiple_left : (x d k : ℤ) → x ≡ k *ℤ d → unsigned_abs x % unsigned_abs d ≡ 0
multiple_left x d k e = ap (λ z. unsigned_abs z % unsigned_abs d) e ∙ ap (λ n. n % unsigned_abs d) (unsigned_abs-mul k d) ∙ mul-mod_left (unsigned_abs k) (unsigned_abs d)

multiple_right : (x d : ℤ) → pos 1 ≤ℤ d → unsigned_abs x % unsigned_abs d ≡ 0 → (k : ℤ) × (x ≡ k *ℤ d)
multiple_right (pos n) (pos m) h e = (pos (n / m), ap pos (quotient n m e) ∙ sym (pos-mul (n / m) m))
multiple_right (negsuc n) (pos m) h e = (neg_ℤ (pos (suc n / m)), ap (λ n. neg_ℤ (pos n)) (quotient (suc n) m e) ∙ sym (mul-neg_left (pos (suc n / m)) (pos m) ∙ ap neg_ℤ (pos-mul (suc n / m) m)))
multiple_right (pos n) (negsuc m) h e = absurd (omega (arith, ints))
multiple_right (negsuc n) (negsuc m) h e = absurd (omega (arith, ints))

-- d divides x where the absolute value of d divides that of x
pub divides_is : (x d : ℤ) (m n : ℕ) → m ≡ unsigned_abs x → n ≡ unsigned_abs d → pos 1 ≤ℤ d →
    IsTrue (eqb (m % n) 0) ↔ ((pos 1 ≤ℤ d) × ((k : ℤ) × (x ≡ k *ℤ d)))
divides_is x d m n e f h = (
  λ t. (h, multiple_right x d h ((λ i. sym e i % sym f i) ∙ eqb-true (m % n) 0 t)),
  λ t. eq-eqb (m % n) 0 ((λ i. e i % f i) ∙ multiple_left x d t.1.0 t.1.1),
)
