-- Counts of bags at an element term, as the code finds their numbers.
use Rattle.std.specs.Prelude.{ℕ, ◌+◌, ◌*◌, ◌<◌, ◌≤◌, ◌^◌, length, Option, None, Some}
use Rattle.hs_pure.specs.declared.lin.Lin.{Lin}
use Rattle.hs_pure.specs.Assertion.{BagTerm, empty, name, one, union, inter, diff, Assertion}
use Rattle.hs_reduction.specs.Layout.{name_place, bag_compounds, width, count_number}
use Rattle.hs_reduction.specs.Layout as Laid
use Rattle.hs_reduction.specs.Reduction.{is_sum, is_least, is_difference}
use Rattle.hs_bag.specs.declared.layout.Layout.{Layout}
use Rattle.hs_bag.specs.declared.define.Operation.{Operation}
use Rattle.hs_bag.specs.declared.define.Operation.TheVariants as operation

-- what the count c of an operation is
abbrev pub operated : Operation → Lin → Lin → Lin → Assertion
operated operation.Union c x y = is_sum c x y
operated operation.Inter c x y = is_least c x y
operated operation.Diff c x y = is_difference c x y

-- the layout that the code holds
abbrev pub layout_of : Layout → Laid.Layout
layout_of l = record { start = l.start; listed = l.listed; new = l.new; bags = l.bags }

-- the block of a bag's counts; the empty bag has none
abbrev pub own_block : Laid.Layout → ℕ → BagTerm → Option ℕ
own_block l block empty = None
own_block l block (name v) = Some (name_place v l.bags)
own_block l block (one a) = Some block
own_block l block (union a b) = Some (block + bag_compounds a + bag_compounds b)
own_block l block (inter a b) = Some (block + bag_compounds a + bag_compounds b)
own_block l block (diff a b) = Some (block + bag_compounds a + bag_compounds b)

-- the number of a count of a block
abbrev pub number_in : Laid.Layout → Option ℕ → ℕ → Option ℕ
number_in l None i = None
number_in l (Some block) i = Some (count_number l block i)

-- the new numbers and one block more are numbers of the program
pub record LayoutFits (l : Layout) : Type 0 where
  pub numbers : l.start + l.new + (l.blocks + 1) * width (layout_of l) < 2 ^ 32
  pub blocks : l.blocks < 2 ^ 32
  pub bags : length l.bags ≤ l.blocks

-- the block is none of those that are too great
abbrev pub BlockFits : ℕ → Option ℕ → Type 0
BlockFits blocks None = Unit {0}
BlockFits blocks (Some block) = block ≤ blocks
