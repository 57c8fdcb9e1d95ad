-- The bags that the counts of a reduction say.
use Rattle.std.specs.Prelude.{◌≡◌, ℕ, zero, suc, ◌<◌, ℤ, pos, ◌≤ℤ◌, List, [], ◌∷◌, length, if◌then◌else◌}
use Rattle.std.specs.Ordering.{int_eq}
use Rattle.hs_pure.specs.Multiset.{Multiset, nothing, set_count}
use Rattle.hs_pure.specs.Stack.{Stack}
use Rattle.hs_pure.specs.Truth.{value}
use Rattle.hs_pure.specs.Eval.{natural}
use Rattle.hs_reduction.specs.Layout.{number_variable, has_name, name_place, Layout, width, element, count_number}

-- the bag with the counts of f at the listed integers, and 0 elsewhere
abbrev pub tabulate : (ℤ → ℕ) → List ℤ → Multiset
tabulate f [] = nothing
tabulate f (x ∷ xs) = set_count (tabulate f xs) x (f x)

module _ (l : Layout) (t : Stack) where
  -- what a count is worth
  abbrev pub count_at : ℕ → ℕ → ℤ
  count_at block i = (t (number_variable (count_number l block i))).number

  -- what the first n element terms are worth
  abbrev pub element_values : ℕ → List ℤ
  element_values zero = []
  element_values (suc n) = value t (element l n) ∷ element_values n

  -- the count of a block at the last of the first n element terms that is worth x
  abbrev pub count_of_value : ℕ → ℕ → ℤ → ℕ
  count_of_value block zero x = 0
  count_of_value block (suc n) x = if int_eq (value t (element l n)) x then natural (count_at block n) else count_of_value block n x

  abbrev pub rebuilt_bag : ℕ → Multiset
  rebuilt_bag block = tabulate (count_of_value block (width l)) (element_values (width l))

  -- the stack with the bags that the counts say
  abbrev pub rebuilt : Stack
  rebuilt v = record {
    number = (t v).number;
    bag = if has_name v l.bags then rebuilt_bag (name_place v l.bags) else nothing;
  }

  -- no count of a bag variable is negative, and equal elements have equal counts
  abbrev pub CountsAreRight : Type 0
  CountsAreRight =
      (block i : ℕ) → block < length l.bags → i < width l → (pos 0 ≤ℤ count_at block i)
      × ((j : ℕ) → j < width l → value t (element l i) ≡ value t (element l j) → count_at block i ≡ count_at block j)
