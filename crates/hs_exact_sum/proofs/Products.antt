-- Products of numbers near 0, and the number that limbs say with a product more.
use Rattle.std.proofs.Common.{◌≡◌, ℕ, ◌+◌, ◌*◌, ◌^◌, ◌<◌, ◌≤◌, ℤ, pos, ◌+ℤ◌, ◌*ℤ◌, unsigned_abs, sym, ap, ◌∙◌, subst, arith}
use Rattle.std.proofs.Math.Nat.{mul-le-mul}
use Rattle.std.proofs.lemmas.Int.{ints, unsigned_abs-mul, to_z-of_z, fits_signed_mul}
use borrow.Author.Differences.{up, down, sum_is_lem, product_is, same_in}
use mir.Syntax.{w128}
use mir.Val.{SFits, to_z, of_z}
use Rattle.hs_exact_sum.specs.Limbs.{joined}

-- ---- bounds

pub product-near : (a b : ℤ) → unsigned_abs a ≤ 2 ^ 63 → unsigned_abs b ≤ 2 ^ 63 → unsigned_abs (a *ℤ b) ≤ 2 ^ 126
product-near a b h k = subst (λ (n : ℕ). n ≤ 2 ^ 63 * 2 ^ 63) (sym (unsigned_abs-mul a b)) (mul-le-mul h k)

pub product-passed : (a b : ℤ) → SFits w128 a → SFits w128 b → unsigned_abs a ≤ 2 ^ 63 → unsigned_abs b ≤ 2 ^ 63
    → to_z w128 (of_z w128 (to_z w128 (of_z w128 a) *ℤ to_z w128 (of_z w128 b))) ≡ a *ℤ b
product-passed a b fa fb h k =
    ap (λ z. to_z w128 (of_z w128 z)) (λ i. to_z-of_z w128 a fa i *ℤ to_z-of_z w128 b fb i)
    ∙ to_z-of_z w128 (a *ℤ b) (fits_signed_mul w128 a b (2 ^ 63) (2 ^ 63) h k (omega arith))

-- ---- a product of sums

mul-sum_left : (a b c : ℤ) → (a +ℤ b) *ℤ c ≡ a *ℤ c +ℤ b *ℤ c
mul-sum_left a b c = omega (arith, ints, ap (λ (n : ℕ). n * up c) (sum_is_lem a b), ap (λ (n : ℕ). n * down c) (sum_is_lem a b))

mul-sum_right : (a b c : ℤ) → a *ℤ (b +ℤ c) ≡ a *ℤ b +ℤ a *ℤ c
mul-sum_right a b c = omega (arith, ints, ap (λ (n : ℕ). n * up a) (sum_is_lem b c), ap (λ (n : ℕ). n * down a) (sum_is_lem b c))

up-product : (a b : ℤ) → up (a *ℤ b) ≡ up a * up b + down a * down b
up-product a b = (product_is a b).0

down-product : (a b : ℤ) → down (a *ℤ b) ≡ up a * down b + down a * up b
down-product a b = (product_is a b).1

mul_swap : (h b k c : ℤ) → (h *ℤ b) *ℤ (k *ℤ c) ≡ (h *ℤ k) *ℤ (b *ℤ c)
mul_swap h b k c = same_in _ _ (simp (up-product, down-product) (omega arith))

mul_first : (h b m : ℤ) → (h *ℤ b) *ℤ m ≡ (h *ℤ m) *ℤ b
mul_first h b m = same_in _ _ (simp (up-product, down-product) (omega arith))

mul_second : (l k b : ℤ) → l *ℤ (k *ℤ b) ≡ (l *ℤ k) *ℤ b
mul_second l k b = same_in _ _ (simp (up-product, down-product) (omega arith))

pub four_products : (h l k m b : ℤ) → (h *ℤ b +ℤ l) *ℤ (k *ℤ b +ℤ m) ≡ ((h *ℤ k) *ℤ (b *ℤ b) +ℤ (h *ℤ m) *ℤ b) +ℤ ((l *ℤ k) *ℤ b +ℤ l *ℤ m)
four_products h l k m b =
    mul-sum_left (h *ℤ b) l (k *ℤ b +ℤ m)
    ∙ (λ i. mul-sum_right (h *ℤ b) (k *ℤ b) m i +ℤ mul-sum_right l (k *ℤ b) m i)
    ∙ (λ i. (mul_swap h b k b i +ℤ mul_first h b m i) +ℤ (mul_second l k b i +ℤ l *ℤ m))

-- ---- limbs with the four products added

pub four_added : (a b c d rest p q r s : ℤ) (first second third first' second' third' cross : ℕ) → pos first +ℤ p ≡ joined a first' → (pos second +ℤ a) +ℤ q ≡ joined b cross →
    pos cross +ℤ r ≡ joined c second' → ((pos third +ℤ b) +ℤ c) +ℤ s ≡ joined d third' →
    joined (joined (joined (rest +ℤ d) third') second') first'
    ≡ joined (joined (joined rest third) second) first +ℤ ((s *ℤ pos (2 ^ 128) +ℤ q *ℤ pos (2 ^ 64)) +ℤ (r *ℤ pos (2 ^ 64) +ℤ p))
four_added a b c d rest p q r s first second third first' second' third' cross e f g h = omega (arith, ints, e, f, g, h)

-- ---- as the program passes them

pub near_passed : (z : ℤ) → unsigned_abs z ≤ 2 ^ 63 → to_z w128 (of_z w128 z) ≡ z
near_passed z h = omega (arith, ints, h)

pub sum_passed : (d p z : ℤ) → unsigned_abs d ≤ 2 ^ 65 → unsigned_abs p ≤ 2 ^ 126 → to_z w128 (of_z w128 (to_z w128 (of_z w128 d) +ℤ to_z w128 (of_z w128 p))) ≡ z → d +ℤ p ≡ z
sum_passed d p z h k e = omega (arith, ints, h, k, e)

pub with_product : (passed d a b z : ℤ) → passed ≡ d → unsigned_abs a ≤ 2 ^ 63 → unsigned_abs b ≤ 2 ^ 63 → passed +ℤ to_z w128 (of_z w128 a) *ℤ to_z w128 (of_z w128 b) ≡ z → d +ℤ a *ℤ b ≡ z
with_product passed d a b z e h k is = sym (λ i. e i +ℤ near_passed a h i *ℤ near_passed b k i) ∙ is

pub low_passed : (z : ℤ) (n : ℕ) → n < 2 ^ 64 → z ≡ pos n → to_z w128 (of_z w128 z) ≡ pos n
low_passed z n h e = omega (arith, ints, h, e)

pub digit_passed : (z a : ℤ) (n : ℕ) → n < 2 ^ 64 → unsigned_abs a ≤ 2 ^ 62 + 3 → z ≡ pos n → to_z w128 (of_z w128 (to_z w128 (of_z w128 z) +ℤ to_z w128 (of_z w128 a))) ≡ pos n +ℤ a
digit_passed z a n h k e = omega (arith, ints, h, k, e)

pub rest_passed : (z a : ℤ) → unsigned_abs z ≤ 2 ^ 126 + 2 ^ 66 → unsigned_abs a ≤ 2 ^ 62 + 3 → to_z w128 (of_z w128 (to_z w128 (of_z w128 z) +ℤ to_z w128 (of_z w128 a))) ≡ z +ℤ a
rest_passed z a h k = omega (arith, ints, h, k)

upper-fits : (a b : ℤ) (n : ℕ) → n < 2 ^ 64 → unsigned_abs a ≤ 2 ^ 62 + 3 → unsigned_abs b ≤ 2 ^ 62 + 3 → SFits w128 ((pos n +ℤ a) +ℤ to_z w128 (of_z w128 b))
upper-fits a b n h k l = omega (arith, ints, h, k, l)

upper-near : (a b : ℤ) (n : ℕ) → n < 2 ^ 64 → unsigned_abs a ≤ 2 ^ 62 + 3 → unsigned_abs b ≤ 2 ^ 62 + 3 → unsigned_abs ((pos n +ℤ a) +ℤ b) ≤ 2 ^ 65
upper-near a b n h k l = omega (arith, ints, h, k, l)

upper-sum : (a b : ℤ) (n : ℕ) → n < 2 ^ 64 → unsigned_abs a ≤ 2 ^ 62 + 3 → unsigned_abs b ≤ 2 ^ 62 + 3 → to_z w128 (of_z w128 ((pos n +ℤ a) +ℤ to_z w128 (of_z w128 b))) ≡ (pos n +ℤ a) +ℤ b
upper-sum a b n h k l = omega (arith, ints, h, k, l)

module _ (z a b : ℤ) (n : ℕ) (h : n < 2 ^ 64) (k : unsigned_abs a ≤ 2 ^ 62 + 3) (l : unsigned_abs b ≤ 2 ^ 62 + 3) (e : z ≡ pos n) where
  pub fits_upper : SFits w128 (to_z w128 (of_z w128 (to_z w128 (of_z w128 z) +ℤ to_z w128 (of_z w128 a))) +ℤ to_z w128 (of_z w128 b))
  fits_upper = subst (λ (d : ℤ). SFits w128 (d +ℤ to_z w128 (of_z w128 b))) (sym (digit_passed z a n h k e)) (upper-fits a b n h k l)

  pub upper_passed : to_z w128 (of_z w128 (to_z w128 (of_z w128 (to_z w128 (of_z w128 z) +ℤ to_z w128 (of_z w128 a))) +ℤ to_z w128 (of_z w128 b))) ≡ (pos n +ℤ a) +ℤ b
  upper_passed = ap (λ (d : ℤ). to_z w128 (of_z w128 (d +ℤ to_z w128 (of_z w128 b)))) (digit_passed z a n h k e) ∙ upper-sum a b n h k l

  pub near_upper : unsigned_abs (to_z w128 (of_z w128 (to_z w128 (of_z w128 (to_z w128 (of_z w128 z) +ℤ to_z w128 (of_z w128 a))) +ℤ to_z w128 (of_z w128 b)))) ≤ 2 ^ 65
  near_upper = subst (λ (d : ℤ). unsigned_abs d ≤ 2 ^ 65) (sym upper_passed) (upper-near a b n h k l)
