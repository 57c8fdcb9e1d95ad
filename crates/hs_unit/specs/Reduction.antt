-- Equations that are solved one after another, each for a variable with the coefficient 1 or -1.
use Rattle.std.specs.Prelude.{◌≡◌, ℕ, zero, suc, ◌+◌, ◌^◌, ◌==◌, Bool, true, ◌&&◌, nat_lt, not, if◌then◌else◌, List, [], ◌∷◌, ◌++◌, map, length, Option, None, Some, ℤ, pos, negsuc, neg_ℤ, unsigned_abs}
use Rattle.hs_pure.specs.declared.var.Var.{Var}
use Rattle.hs_pure.specs.declared.lin.Lin.{Lin}
use Rattle.hs_pure.specs.Sums.{weight}
use Rattle.hs_elimination.specs.Linear.{place, times, rest}
use Rattle.hs_elimination.specs.Cases.{substitute_lin}
use Rattle.hs_unit.specs.declared.reduction.Reduction.{Reduction}
use Rattle.hs_unit.specs.Sides.{Comparison, forms}

abbrev pub Term : Type 0
Term = Var × ℤ

-- ---- forms

-- the absolute coefficients and the constant add up to at most 2^60
abbrev pub is_small : Lin → Bool
is_small a = not (nat_lt (2 ^ 60) (weight a.terms + unsigned_abs a.constant))

abbrev pub all_small : List Lin → Bool
all_small [] = true
all_small (a ∷ as') = is_small a && all_small as'

abbrev pub is_unit : ℤ → Bool
is_unit (pos n) = n == 1
is_unit (negsuc n) = n == 0

-- the first term with the coefficient 1 or -1
abbrev pub unit_term : List Term → Option Term
unit_term [] = None
unit_term (t ∷ ts) = if is_unit t.1 then Some t else unit_term ts

-- what c * x + r = 0 makes x, where c is 1 or -1
abbrev pub solution : Lin → Term → Lin
solution f t = times (neg_ℤ t.1) (rest (place t.0) f)

-- the solution of f in the place of its variable, in all forms of a list
abbrev pub put : Term → Lin → List Lin → List Lin
put t f as' = map (substitute_lin (place t.0) (solution f t)) as'

abbrev pub put_right : Term → Lin → List Comparison → List Comparison
put_right t f cs = map (λ c. (c.0, substitute_lin (place t.0) (solution f t) c.1)) cs

-- the first form, if there is one, has variables
abbrev pub BeginsProper : List Lin → Type 0
BeginsProper [] = Unit {0}
BeginsProper (f ∷ fs) = ¬ (f.terms ≡ [])

-- ---- steps

-- f, which has no variables, is passed over
abbrev pub passed : Reduction → Lin → List Lin → Reduction
passed r f later = record { pivots = r.pivots ++ None ∷ []; taken = r.taken ++ f ∷ []; later = later; right = r.right }

-- f is solved for the variable of t, and the solution put in its place in all other forms
abbrev pub solved_for : Reduction → Lin → List Lin → Term → Reduction
solved_for r f later t = record { pivots = r.pivots ++ Some t ∷ []; taken = put t f r.taken ++ f ∷ []; later = put t f later; right = put_right t f r.right }

-- the same, if there is such a term and the other forms stay small
abbrev pub step_for : Reduction → Lin → List Lin → Option Term → Option Reduction
step_for r f later None = None
step_for r f later (Some t) =
    if all_small (put t f r.taken) && all_small (put t f later) && all_small (forms (put_right t f r.right))
    then Some (solved_for r f later t) else None

-- f, with the terms of the last argument, is taken
abbrev pub step : Reduction → Lin → List Lin → List Term → Option Reduction
step r f later [] = Some (passed r f later)
step r f later (t ∷ ts) = step_for r f later (unit_term (t ∷ ts))

abbrev pub after : (Reduction → Option Reduction) → Option Reduction → Option Reduction
after more None = None
after more (Some r) = more r

-- the left forms that are to come are taken in order, at most n of them
abbrev pub steps : ℕ → Reduction → List Lin → Option Reduction
steps n r [] = Some r
steps zero r (f ∷ later) = None
steps (suc n) r (f ∷ later) = after (λ q. steps n q q.later) (step r f later f.terms)

abbrev pub start : List Lin → List Comparison → Reduction
start left right = record { pivots = []; taken = []; later = left; right = right }

-- all steps, where the forms are small
abbrev pub reduced : List Lin → List Comparison → Option Reduction
reduced left right = if all_small left && all_small (forms right) then steps (length left) (start left right) left else None
