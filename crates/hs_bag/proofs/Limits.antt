-- Few new numbers.
use Rattle.std.proofs.Common.{◌≡◌, ℕ, ◌+◌, ◌*◌, ◌<◌, ◌≤◌, ◌^◌, min, true, List, [], length, ap, arith}
use Rattle.std.proofs.lemmas.Nat.{mul-le}
use Rattle.std.proofs.Math.Nat.{add-mul, mul_comm}
use Rattle.hs_pure.specs.declared.var.Var.{Var}
use Rattle.hs_pure.specs.declared.lin.Lin.{Lin}
use Rattle.hs_pure.specs.Assertion.{Assertion}
use Rattle.hs_elimination.specs.Cases.{join_distinct}
use Rattle.hs_reduction.specs.Layout as Laid
use Rattle.hs_reduction.specs.Layout.{layout, terms, names, denied, compounds, width, after}
use Rattle.hs_bag.specs.Size.{HasCounts}

pub row_above : (a b : ℕ) → 0 < b → a ≤ a * b
row_above a b h = let row : a * 1 ≤ a * b = mul-le a 1 a b (omega arith) h in omega (arith, row)

pub row_beside : (a b : ℕ) → 0 < a → b ≤ a * b
row_beside a b h = let row : b ≤ b * a = row_above b a h in let same : b * a ≡ a * b = mul_comm b a in omega arith

pub small_product : (a b : ℕ) → a ≤ 2 ^ 30 → b ≤ 2 ^ 30 → a * b ≤ 2 ^ 60
small_product a b h k = let row : a * b ≤ 2 ^ 30 * 2 ^ 30 = mul-le a b (2 ^ 30) (2 ^ 30) h k in omega (arith, row)

-- what was counted too low is too high already
pub more_than_most : (n new c comp bags listed : ℕ) → n ≤ new → c ≤ comp → 2 ^ 30 < n + (bags + c) * (listed + n) → 2 ^ 30 < new + (bags + comp) * (listed + new)
more_than_most n new c comp bags listed h k more =
    let row : (bags + c) * (listed + n) ≤ (bags + comp) * (listed + new) = mul-le (bags + c) (listed + n) (bags + comp) (listed + new) (omega arith) (omega arith) in omega arith

module _ (start : ℕ) (p : Assertion) (listed : List Lin) (bags : List Var) (new comp : ℕ) (listed_is : listed ≡ join_distinct [] (terms p)) (bags_are : bags ≡ names p [])
    (new_is : new ≡ min (denied true p) (2 ^ 31)) (comp_is : comp ≡ min (compounds p) (2 ^ 31)) where
  pub too_many : 2 ^ 30 < new + (length bags + comp) * (length listed + new) → start + 2 ^ 30 < after (layout start p) p
  too_many more =
      let all : 2 ^ 30 < denied true p + (length bags + compounds p) * (length listed + denied true p) = more_than_most new (denied true p) comp (compounds p) (length bags) (length listed) (omega arith) (omega arith) more in
      let same : denied true p + (length bags + compounds p) * (length listed + denied true p) ≡ denied true p + (length (names p []) + compounds p) * (length (join_distinct [] (terms p)) + denied true p)
      = λ i. denied true p + (length (bags_are i) + compounds p) * (length (listed_is i) + denied true p) in
      omega arith

  pub too_many_elements : 2 ^ 30 < new → start + 2 ^ 30 < after (layout start p) p
  too_many_elements more = omega arith

  pub has_counts : 0 < length bags + comp → 0 < length listed + new → HasCounts (layout start p) p
  has_counts some wide =
      let bags_same : length bags ≡ length (names p []) = ap length bags_are in
      let listed_same : length listed ≡ length (join_distinct [] (terms p)) = ap length listed_is in
      (omega arith, omega arith)

  pub is_laid : length listed + new < 2 ^ 30 → ◌≡◌ {A = Laid.Layout} (record { start = start; listed = listed; new = new; bags = bags }) (layout start p)
  is_laid few = let new_exact : new ≡ denied true p = omega arith in λ i. record { start = start; listed = listed_is i; new = new_exact i; bags = bags_are i }

  pub blocks_are : length bags + comp < 2 ^ 31 → length bags + comp ≡ length bags + compounds p
  blocks_are few = omega arith

-- room for the numbers of one block more
pub room : (start new blocks width : ℕ) → start ≤ 2 ^ 31 → new + blocks * width ≤ 2 ^ 30 → width < 2 ^ 30 → start + new + (blocks + 1) * width < 2 ^ 32
room start new blocks width h k few = let rows : (blocks + 1) * width ≡ blocks * width + 1 * width = add-mul blocks 1 width in omega arith
