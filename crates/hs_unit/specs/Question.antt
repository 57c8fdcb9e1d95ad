-- Which questions are unit questions.
use Rattle.std.specs.Prelude.{◌≡◌, List, Option, None, Some}
use Rattle.hs_pure.specs.declared.lin.Lin.{Lin}
use Rattle.hs_pure.specs.Assertion.{Assertion}
use Rattle.hs_unit.specs.declared.reduction.Reduction.{Reduction}
use Rattle.hs_unit.specs.Sides.{Comparison, left_forms, comparisons}
use Rattle.hs_unit.specs.Reduction.{reduced}

-- the reduction of the forms of both sides, where they are there
abbrev pub reduced_sides : Option (List Lin) → Option (List Comparison) → Option Reduction
reduced_sides None cs = None
reduced_sides (Some left) None = None
reduced_sides (Some left) (Some right) = reduced left right

abbrev pub reduction : Assertion → Assertion → Option Reduction
reduction a b = reduced_sides (left_forms a) (comparisons b)

-- whether a implies b is a unit question: each equation of a is solved in its turn
abbrev pub IsUnitQuestion : Assertion → Assertion → Type 0
IsUnitQuestion a b = (r : Reduction) × (reduction a b ≡ Some r)
