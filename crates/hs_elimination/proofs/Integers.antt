-- The ring laws of ℤ that the library lacks, and divisibility.
use Rattle.std.proofs.Common.{◌≡◌, ℕ, ◌+◌, ◌*◌, ap, arith, pos, ◌+ℤ◌, ◌-ℤ◌, ◌*ℤ◌, neg_ℤ, ◌≤ℤ◌, ◌<ℤ◌}
use Rattle.std.proofs.lemmas.Int.{ints}
use Rattle.std.specs.Prelude.{ℤ}
use Rattle.std.proofs.Math.IntN.{*ℤ_comm}
use borrow.Author.Differences.{up, down, sum_is_lem, product_is, neg_is, same_in}

up-product : (a b : ℤ) → up (a *ℤ b) ≡ up a * up b + down a * down b
up-product a b = (product_is a b).0

down-product : (a b : ℤ) → down (a *ℤ b) ≡ up a * down b + down a * up b
down-product a b = (product_is a b).1

up-neg : (a : ℤ) → up (neg_ℤ a) ≡ down a
up-neg a = (neg_is a).0

down-neg : (a : ℤ) → down (neg_ℤ a) ≡ up a
down-neg a = (neg_is a).1

pub mul-sum_left : (a b c : ℤ) → (a +ℤ b) *ℤ c ≡ a *ℤ c +ℤ b *ℤ c
mul-sum_left a b c = omega (arith, ints, ap (λ (n : ℕ). n * up c) (sum_is_lem a b), ap (λ (n : ℕ). n * down c) (sum_is_lem a b))

pub mul-sum_right : (a b c : ℤ) → a *ℤ (b +ℤ c) ≡ a *ℤ b +ℤ a *ℤ c
mul-sum_right a b c = omega (arith, ints, ap (λ (n : ℕ). n * up a) (sum_is_lem b c), ap (λ (n : ℕ). n * down a) (sum_is_lem b c))

pub mul_assoc : (a b c : ℤ) → (a *ℤ b) *ℤ c ≡ a *ℤ (b *ℤ c)
mul_assoc a b c = same_in _ _ (simp (up-product, down-product) (omega arith))

pub mul_left_comm : (a b c : ℤ) → a *ℤ (b *ℤ c) ≡ b *ℤ (a *ℤ c)
mul_left_comm a b c = same_in _ _ (simp (up-product, down-product) (omega arith))

pub mul-neg_left : (a b : ℤ) → neg_ℤ a *ℤ b ≡ neg_ℤ (a *ℤ b)
mul-neg_left a b = same_in _ _ (simp (up-product, down-product, up-neg, down-neg) (omega arith))

pub mul-neg_right : (a b : ℤ) → a *ℤ neg_ℤ b ≡ neg_ℤ (a *ℤ b)
mul-neg_right a b = same_in _ _ (simp (up-product, down-product, up-neg, down-neg) (omega arith))

pub linear : (a b c : ℤ) → a +ℤ b ≡ c → a ≡ c -ℤ b
linear a b c e = omega (arith, ints)

-- what turns an equation of products into one that is linear in them: `simp ring (omega (arith, ints))`
pub ruleset ring = (mul-sum_left, mul-sum_right, mul-neg_left, mul-neg_right, mul_assoc, mul_left_comm, *ℤ_comm)

order : (a b c : ℤ) → a ≤ℤ b → b <ℤ c → (a +ℤ pos 1) ≤ℤ c
order a b c h k = omega (arith, ints)
