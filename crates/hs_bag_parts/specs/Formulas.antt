-- Counts and comparisons of two sums, as the code makes them.
use Rattle.std.specs.Prelude.{ℕ, Option, None, Some}
use Rattle.hs_pure.specs.declared.lin.Lin.{Lin}
use Rattle.hs_pure.specs.Assertion.{Assertion, eq, lt, le}
use Rattle.hs_reduction.specs.Layout.{variable}
use Rattle.hs_reduction.specs.Reduction.{zero_term}
use Rattle.hs_bag_parts.specs.declared.formula.Relation.{Relation}
use Rattle.hs_bag_parts.specs.declared.formula.Relation.TheVariants.{Equal, Less, AtMost}

-- a variable, or 0
abbrev pub counted : Option ℕ → Lin
counted None = zero_term
counted (Some n) = variable n

abbrev pub related : Relation → Lin → Lin → Assertion
related Equal a b = eq a b
related Less a b = lt a b
related AtMost a b = le a b
