-- Bags as values: finite maps from integers to positive counts. Each count is kept less 1, so that bags
-- with equal counts are equal.
use Rattle.std.specs.Prelude.{ℕ, zero, suc, ℤ, Option, None, Some}
use Rattle.std.specs.FinMap
use Rattle.std.specs.FinMap.{FinMap}
use Rattle.std.specs.Ordering.{int_cmp}

abbrev pub Multiset : Type 0
Multiset = FinMap int_cmp ℕ

-- the count that a map's entry stands for
abbrev pub count_kept : Option ℕ → ℕ
count_kept None = 0
count_kept (Some n) = suc n

-- how often x is in the bag
abbrev pub count : Multiset → ℤ → ℕ
count m x = count_kept (FinMap.get m x)

-- the bag without elements
abbrev pub nothing : Multiset
nothing = FinMap.empty

-- the bag with n as the count of x
abbrev pub set_count : Multiset → ℤ → ℕ → Multiset
set_count m x zero = FinMap.remove m x
set_count m x (suc n) = FinMap.insert m x n
