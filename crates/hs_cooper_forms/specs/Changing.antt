-- Changes of each literal of a formula, as the second and third stage make them.
use Rattle.std.specs.Prelude.{◌≡◌, ℕ, ◌*◌, ◌<◌, ◌^◌, ◌⊎◌, ℤ, pos, negsuc}
use Rattle.hs_elimination.specs.Linear.{place, number, coefficient}
use Rattle.hs_elimination.specs.Form.{Form, const, positive, multiple, no_multiple, conjunction, disjunction, IsWide}
use Rattle.hs_elimination.specs.Scaling.{scale}
use Rattle.hs_elimination.specs.Cases.{substitute, minus_infinity}
use Rattle.hs_cooper_forms.specs.declared.change.Change.{Change}
use Rattle.hs_cooper_forms.specs.declared.change.Change.TheVariants.{Scale, Substitute, Low}
use Rattle.hs_cooper_forms.specs.declared.nnf.Relation.{Relation}
use Rattle.hs_cooper_forms.specs.declared.nnf.Relation.TheVariants.{Positive, Multiple, NoMultiple}

abbrev pub changed : Change → Form → Form
changed (Scale x l) f = scale l x f
changed (Substitute x u) f = substitute (place x) u f
changed (Low x j) f = substitute (place x) (number (pos j)) (minus_infinity (place x) f)

-- the factor is a number of the program
abbrev pub ChangeFits : Change → Type 0
ChangeFits (Scale x l) = l < 2 ^ 127
ChangeFits (Substitute x u) = Unit {0}
ChangeFits (Low x j) = Unit {0}

abbrev pub IsOneOrNone : ℤ → Type 0
IsOneOrNone c = (c ≡ pos 0) ⊎ (c ≡ pos 1) ⊎ (c ≡ negsuc 0)

-- some coefficient of x is not 0, 1 or -1
abbrev pub HasUneven : ℕ → Form → Type 0
HasUneven x (const b) = ⊥
HasUneven x (positive t) = ¬ (IsOneOrNone (coefficient x t.terms))
HasUneven x (multiple d t) = ¬ (IsOneOrNone (coefficient x t.terms))
HasUneven x (no_multiple d t) = ¬ (IsOneOrNone (coefficient x t.terms))
HasUneven x (conjunction f g) = HasUneven x f ⊎ HasUneven x g
HasUneven x (disjunction f g) = HasUneven x f ⊎ HasUneven x g

-- a change is not for this formula: it substitutes, and the second stage has not been there
abbrev pub IsUneven : Change → Form → Type 0
IsUneven (Scale x l) f = ⊥
IsUneven (Substitute x u) f = HasUneven (place x) f
IsUneven (Low x j) f = HasUneven (place x) f

-- why a change may be refused
abbrev pub IsRefused : Change → Form → Type 0
IsRefused c f = IsWide (changed c f) ⊎ IsUneven c f

-- ---- parts

abbrev pub relation_times : ℕ → Relation → Relation
relation_times q Positive = Positive
relation_times q (Multiple d) = Multiple (d * q)
relation_times q (NoMultiple d) = NoMultiple (d * q)

-- its divisor is a number of the program
abbrev pub RelationFits : Relation → Type 0
RelationFits Positive = Unit {0}
RelationFits (Multiple d) = d < 2 ^ 127
RelationFits (NoMultiple d) = d < 2 ^ 127

-- the unit of a coefficient's sign
abbrev pub sign_unit : ℤ → ℤ
sign_unit (pos n) = pos 1
sign_unit (negsuc n) = negsuc 0
