-- The two sides of a unit question, as comparisons of sums with 0.
use Rattle.std.specs.Prelude.{Bool, true, false, ◌&&◌, List, [], ◌∷◌, ◌++◌, map, Option, None, Some, ◌⊎◌}
use Rattle.hs_pure.specs.declared.lin.Lin.{Lin}
use Rattle.hs_pure.specs.Assertion.{Assertion, truth, eq, lt, le, divides, bag_eq, subset, member, all_of, negation, both, either, exists, forall}
use Rattle.hs_elimination.specs.Linear.{minus, IsWideLin}
use Rattle.hs_unit.specs.declared.sides.Kind.{Kind}
use Rattle.hs_unit.specs.declared.sides.Kind.TheVariants.{Zero, Below, Most}

-- a sum, called a form, and how it compares with 0
abbrev pub Comparison : Type 0
Comparison = Kind × Lin

abbrev pub forms : List Comparison → List Lin
forms cs = map (λ c. c.1) cs

abbrev pub joined : {X : Type 0} → Option (List X) → Option (List X) → Option (List X)
joined None ys = None
joined (Some xs) None = None
joined (Some xs) (Some ys) = Some (xs ++ ys)

-- the forms of an equation or of a conjunction of equations, in order
abbrev pub left_forms : Assertion → Option (List Lin)
left_forms truth = Some []
left_forms (eq a b) = Some (minus a b ∷ [])
left_forms (lt a b) = None
left_forms (le a b) = None
left_forms (divides d a) = None
left_forms (bag_eq a b) = None
left_forms (subset a b) = None
left_forms (member a b) = None
left_forms (all_of u b p) = None
left_forms (negation p) = None
left_forms (both p q) = joined (left_forms p) (left_forms q)
left_forms (either p q) = None
left_forms (exists u p) = None
left_forms (forall u p) = None

-- a comparison or those of a conjunction, in order
abbrev pub comparisons : Assertion → Option (List Comparison)
comparisons truth = Some []
comparisons (eq a b) = Some ((Zero, minus a b) ∷ [])
comparisons (lt a b) = Some ((Below, minus a b) ∷ [])
comparisons (le a b) = Some ((Most, minus a b) ∷ [])
comparisons (divides d a) = None
comparisons (bag_eq a b) = None
comparisons (subset a b) = None
comparisons (member a b) = None
comparisons (all_of u b p) = None
comparisons (negation p) = None
comparisons (both p q) = joined (comparisons p) (comparisons q)
comparisons (either p q) = None
comparisons (exists u p) = None
comparisons (forall u p) = None

-- ---- parts

-- those of the members of a conjunction
abbrev pub all_comparisons : List Assertion → Option (List Comparison)
all_comparisons [] = Some []
all_comparisons (p ∷ ps) = joined (comparisons p) (all_comparisons ps)

-- those of the one member of a list
abbrev pub only_comparisons : List Assertion → Option (List Comparison)
only_comparisons [] = None
only_comparisons (p ∷ []) = comparisons p
only_comparisons (p ∷ q ∷ ps) = None

abbrev pub is_zero : Kind → Bool
is_zero Zero = true
is_zero Below = false
is_zero Most = false

-- whether all are equations
abbrev pub are_zero : List Comparison → Bool
are_zero [] = true
are_zero (c ∷ cs) = is_zero c.0 && are_zero cs

-- a number of a form passes 128 bits
abbrev pub HasWideForm : Assertion → Type 0
HasWideForm truth = ⊥
HasWideForm (eq a b) = IsWideLin (minus a b)
HasWideForm (lt a b) = IsWideLin (minus a b)
HasWideForm (le a b) = IsWideLin (minus a b)
HasWideForm (divides d a) = ⊥
HasWideForm (bag_eq a b) = ⊥
HasWideForm (subset a b) = ⊥
HasWideForm (member a b) = ⊥
HasWideForm (all_of u b p) = ⊥
HasWideForm (negation p) = ⊥
HasWideForm (both p q) = HasWideForm p ⊎ HasWideForm q
HasWideForm (either p q) = ⊥
HasWideForm (exists u p) = ⊥
HasWideForm (forall u p) = ⊥
