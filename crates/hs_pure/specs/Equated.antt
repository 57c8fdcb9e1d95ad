-- Equations between variables.
use Rattle.std.specs.Prelude.{ℤ, pos, if◌then◌else◌, List, [], ◌∷◌, Option, Some, None}
use Rattle.std.specs.Ordering.{int_eq}
use Rattle.hs_pure.specs.declared.var.Var.{Var}
use Rattle.hs_pure.specs.declared.lin.Lin.{Lin}
use Rattle.hs_pure.specs.declared.pure.Pure.{Pure, fold-Pure}
use Rattle.hs_pure.specs.declared.pure.Pure.TheOpen.{Pure-F}
use Rattle.hs_pure.specs.declared.pure.Pure.TheVariants as pure_of

-- a variable as a sum
abbrev pub variable_sum : Var → Lin
variable_sum v = record { terms = (v, pos 1) ∷ []; constant = pos 0 }

-- the equation of two variables
abbrev pub equation : Var → Var → Pure
equation u v = pure_of.Eq (variable_sum u) (variable_sum v)

abbrev pub single_by : List (Var × ℤ) → Option Var
single_by [] = None
single_by (t ∷ []) = if int_eq t.1 (pos 1) then Some t.0 else None
single_by (t ∷ u ∷ ts) = None

-- the variable that a sum is
abbrev pub single : Lin → Option Var
single a = if int_eq a.constant (pos 0) then single_by a.terms else None

abbrev pub both_single : Option Var → Option Var → Option (Var × Var)
both_single (Some a) (Some b) = Some (a, b)
both_single (Some a) None = None
both_single None b = None

abbrev pub equated_level : Pure-F (Option (Var × Var)) → Option (Var × Var)
equated_level (Pure-F.Eq a b) = both_single (single a) (single b)
equated_level (Pure-F.Lt a b) = None
equated_level (Pure-F.Le a b) = None
equated_level (Pure-F.Divides d a) = None
equated_level (Pure-F.BagEq a b) = None
equated_level (Pure-F.Subset a b) = None
equated_level (Pure-F.Member a b) = None
equated_level (Pure-F.AllOf u b p) = None
equated_level (Pure-F.Not p) = None
equated_level (Pure-F.And ps) = None
equated_level (Pure-F.Or ps) = None
equated_level (Pure-F.Exists u p) = None
equated_level (Pure-F.Forall u p) = None

-- the two variables that an equation equates
abbrev pub equated : Pure → Option (Var × Var)
equated = fold-Pure (Option (Var × Var)) equated_level
