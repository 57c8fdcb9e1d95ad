-- The answer to a unit question, and the values of a No.
use Rattle.std.specs.Prelude.{suc, Bool, true, false, ◌&&◌, ◌||◌, not, if◌then◌else◌, List, [], ◌∷◌, ◌++◌, Option, None, Some, ℤ, pos, negsuc, neg_ℤ, int_lt, unsigned_abs, ◌+ℤ◌, ◌*ℤ◌}
use Rattle.std.specs.Ordering.{int_eq}
use Rattle.hs_pure.specs.declared.lin.Lin.{Lin}
use Rattle.hs_pure.specs.declared.valuation.Valuation.{Valuation}
use Rattle.hs_elimination.specs.Linear.{place, coefficient}
use Rattle.hs_pure.specs.Assertion.{Assertion}
use Rattle.hs_unit.specs.declared.sides.Kind.{Kind}
use Rattle.hs_unit.specs.declared.sides.Kind.TheVariants.{Zero, Below, Most}
use Rattle.hs_unit.specs.declared.reduction.Reduction.{Reduction}
use Rattle.hs_unit.specs.declared.settled.Settled.{Settled}
use Rattle.hs_unit.specs.declared.settled.Settled.TheVariants.{Yes, No}
use Rattle.hs_unit.specs.Sides.{Comparison}
use Rattle.hs_unit.specs.Reduction.{Term}
use Rattle.hs_unit.specs.Question.{reduction}

-- what holds of the valuation of a No
abbrev pub IfNo : Option Settled → (Valuation → Type 0) → Type 0
IfNo None P = Unit {0}
IfNo (Some Yes) P = Unit {0}
IfNo (Some (No v)) P = P v

-- ---- which answer

-- whether a form without variables is not 0
abbrev pub is_clash : List Term → ℤ → Bool
is_clash [] c = not (int_eq c (pos 0))
is_clash (t ∷ ts) c = false

-- whether one of the forms is a number other than 0
abbrev pub clash : List Lin → Bool
clash [] = false
clash (f ∷ fs) = is_clash f.terms f.constant || clash fs

-- whether the number is as the kind says
abbrev pub meets : Kind → ℤ → Bool
meets Zero z = int_eq z (pos 0)
meets Below z = int_lt z (pos 0)
meets Most z = not (int_lt (pos 0) z)

abbrev pub is_settled : Kind → List Term → ℤ → Bool
is_settled k [] c = meets k c
is_settled k (t ∷ ts) c = false

-- whether each form is a number as its kind says
abbrev pub are_settled : List Comparison → Bool
are_settled [] = true
are_settled (c ∷ cs) = is_settled c.0 c.1.terms c.1.constant && are_settled cs

-- ---- the values of a No

-- the sign of the coefficient, times one more than the absolute constant
abbrev pub chosen : ℤ → ℤ → ℤ
chosen (pos n) k = pos (suc (unsigned_abs k))
chosen (negsuc n) k = negsuc (unsigned_abs k)

-- the first variable of a form, with a value that makes the form positive where all others are 0
abbrev pub raised : List Term → ℤ → Option Term
raised [] k = None
raised (t ∷ ts) k = Some (t.0, chosen t.1 k)

-- that of the first form that is no number as its kind says
abbrev pub denied : List Comparison → Option Term
denied [] = None
denied (c ∷ cs) = if is_settled c.0 c.1.terms c.1.constant then denied cs else raised c.1.terms c.1.constant

-- what a form is worth where the variable has the value, and all others are 0
abbrev pub worth : Option Term → Lin → ℤ
worth None f = f.constant
worth (Some e) f = coefficient (place e.0) f.terms *ℤ e.1 +ℤ f.constant

-- what c * x + w = 0 makes x, where c is 1 or -1
abbrev pub turned : ℤ → ℤ → ℤ
turned (pos n) w = neg_ℤ w
turned (negsuc n) w = w

-- the variable that a form was solved for, with the value that makes the form 0
abbrev pub pivot_value : Option Term → Option Term → Lin → List Term
pivot_value e None f = []
pivot_value e (Some t) f = (t.0, turned t.1 (worth e f)) ∷ []

-- those of all forms
abbrev pub pivot_values : Option Term → List (Option Term) → List Lin → List Term
pivot_values e [] fs = []
pivot_values e (p ∷ ps) [] = []
pivot_values e (p ∷ ps) (f ∷ fs) = pivot_value e p f ++ pivot_values e ps fs

abbrev pub values : Option Term → List Term → List Term
values None vs = vs
values (Some e) vs = e ∷ vs

abbrev pub counterexample : Reduction → Valuation
counterexample r = record { numbers = values (denied r.right) (pivot_values (denied r.right) r.pivots r.taken); bags = [] }

abbrev pub settlement : Reduction → Settled
settlement r = if clash r.taken || are_settled r.right then Yes else No (counterexample r)

abbrev pub settlement_of : Option Reduction → Option Settled
settlement_of None = None
settlement_of (Some r) = Some (settlement r)

-- the answer to a unit question; none where it is none
abbrev pub verdict : Assertion → Assertion → Option Settled
verdict a b = settlement_of (reduction a b)
