-- How many comparisons a reduction has, and where some bag has a count.
use Rattle.std.specs.Prelude.{ℕ, ◌+◌, ◌*◌, ◌<◌, true, length}
use Rattle.hs_pure.specs.Assertion.{Assertion}
use Rattle.hs_reduction.specs.Layout.{Layout, width, compounds}
use Rattle.hs_bag_parts.specs.Size.{reduced_comparisons}
pub use Rattle.hs_bag_parts.specs.Size.{comparisons}

-- each count of a bag variable is compared with 0 and with those before it
abbrev pub reduction_comparisons : Layout → Assertion → ℕ
reduction_comparisons l p = length l.bags * (width l * width l) + reduced_comparisons (width l) true p

-- some bag has a count
abbrev pub HasCounts : Layout → Assertion → Type 0
HasCounts l p = (0 < length l.bags + compounds p) × (0 < width l)
