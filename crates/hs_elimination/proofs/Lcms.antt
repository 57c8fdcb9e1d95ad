-- What a least common multiple is.
use Rattle.std.proofs.Common.{◌≡◌, ℕ, zero, suc, ◌*◌, ◌/◌, ◌<◌, refl, sym, ap, ◌∙◌, arith}
use Prim.Native.Nat.{◌%◌}
use Rattle.std.specs.Int.{IsGcd}
use Rattle.std.proofs.lemmas.Nat.Gcd.{IsGcd-from_zero, IsGcd-from_mod}
use Rattle.std.proofs.Math.Nat.{div-mul_cancel, mul-div_cancel'}
use Rattle.hs_elimination.specs.Lcm.{gcd, gcd_within, lcm}

gcd_within-is : (n a b : ℕ) → b < n → IsGcd a b (gcd_within n a b)
gcd_within-is zero a b h = absurd (omega arith)
gcd_within-is (suc n) a zero h = IsGcd-from_zero a 0 refl
gcd_within-is (suc n) a (suc b) h = IsGcd-from_mod a (suc b) _ (gcd_within-is n (suc b) (a % suc b) (omega arith))

pub gcd-is : (a b : ℕ) → IsGcd a b (gcd a b)
unfolding gcd
gcd-is a b = gcd_within-is (suc b) a b (omega arith)

rearranged : (p g q b : ℕ) → g * q ≡ b → p * b ≡ q * (p * g)
rearranged p g q b e = rw (← e) (omega arith)

-- the multiple of each, with its factor
pub lcm-left : (a b : ℕ) → (c : ℕ) × (lcm a b ≡ c * a)
unfolding lcm
lcm-left a b =
    let g = gcd-is a b in
    (b / gcd a b, rearranged (a / gcd a b) (gcd a b) (b / gcd a b) b (mul-div_cancel' (gcd a b) g.1) ∙ ap (λ (n : ℕ). b / gcd a b * n) (div-mul_cancel (gcd a b) g.0))

pub lcm-right : (a b : ℕ) → (c : ℕ) × (lcm a b ≡ c * b)
unfolding lcm
lcm-right a b = (a / gcd a b, refl)

positive_factor : (m n k : ℕ) → 0 < m → m ≡ n * k → 0 < n
positive_factor m zero k h e = omega arith
positive_factor m (suc n) k h e = omega arith

pub lcm_positive : (a b : ℕ) → 0 < a → 0 < b → 0 < lcm a b
unfolding lcm
lcm_positive a b h k =
    let g = gcd-is a b in
    let e : a / gcd a b * gcd a b ≡ a = div-mul_cancel (gcd a b) g.0 in
    let q : 0 < a / gcd a b = positive_factor a (a / gcd a b) (gcd a b) h (sym e) in
    positive_product (a / gcd a b) b q k
  where
    positive_product : (m n : ℕ) → 0 < m → 0 < n → 0 < m * n
    positive_product (suc m) (suc n) h k = omega arith
    positive_product zero n h k = absurd (omega arith)
    positive_product (suc m) zero h k = absurd (omega arith)

pub gcd_positive : (a b : ℕ) → 0 < a → 0 < gcd a b
gcd_positive a b h =
    let e : a / gcd a b * gcd a b ≡ a = div-mul_cancel (gcd a b) (gcd-is a b).0 in
    positive_factor a (gcd a b) (a / gcd a b) h (omega arith)

pub lcm-from : (a b g : ℕ) → g ≡ gcd a b → a / g * b ≡ lcm a b
unfolding lcm
lcm-from a b g e = ap (λ (n : ℕ). a / n * b) e
