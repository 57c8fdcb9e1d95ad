-- The plain value of x, which makes a formula true at a stack for the other variables, and the numbers of its search.
use Rattle.std.specs.Prelude.{◌≡◌, ℕ, zero, suc, ◌-◌, ◌+◌, ◌%◌, ◌≤◌, ◌⊎◌, if◌then◌else◌, List, [], ◌∷◌, Option, None, Some, ℤ, pos, negsuc, ◌-ℤ◌, neg_ℤ, int_div, unsigned_abs, FitsSigned}
use Rattle.std.specs.Int.{int_min, int_rem_euclid}
use Rattle.std.specs.List.{Contains}
use mir.Syntax.{w128}
use Rattle.hs_pure.specs.declared.var.Var.{Var}
use Rattle.hs_pure.specs.declared.lin.Lin.{Lin}
use Rattle.hs_pure.specs.Assertion.{Assertion}
use Rattle.hs_pure.specs.Stack.{Stack}
use Rattle.hs_pure.specs.Truth.{value}
use Rattle.hs_pure.specs.Eval.{SumFits, NumbersFit}
use Rattle.hs_elimination.specs.Linear.{place, plus, number, coefficient, rest}
use Rattle.hs_elimination.specs.Form.{Form, const, positive, multiple, no_multiple, conjunction, disjunction, assertion}
use Rattle.hs_elimination.specs.Normal.{evaluate}
use Rattle.hs_elimination.specs.Cases.{substitute, minus_infinity, distinct_bounds, period}
use Rattle.hs_elimination.specs.Scaling.{multiplier}
use Rattle.hs_elimination.specs.Elimination.{normal_form, scaled_form}
use Rattle.hs_elimination.specs.Decided.{evaluates_to}

-- ---- cases of the third stage

-- the minus-infinity form at j
abbrev pub low_case : ℕ → Form → ℕ → Form
low_case x f j = evaluate (substitute x (number (pos j)) (minus_infinity x f))

-- the formula at b + j
abbrev pub near_case : ℕ → Form → Lin → ℕ → Form
near_case x f b j = evaluate (substitute x (plus b (number (pos j))) f)

-- ---- the number that is low enough

-- the lesser of two numbers, of which the first may lack
abbrev pub lesser : Option ℤ → ℤ → Option ℤ
lesser None c = Some c
lesser (Some a) c = Some (int_min a c)

-- the greatest number that is not above the lower bound, or is below the upper bound, of 0 < c * x + r
abbrev pub limit_of : ℤ → ℤ → Option ℤ
limit_of (pos zero) r = None
limit_of (pos (suc n)) r = Some (neg_ℤ r)
limit_of (negsuc n) r = Some (r -ℤ pos 1)

abbrev pub lesser_limit : Option ℤ → Option ℤ → Option ℤ
lesser_limit a None = a
lesser_limit a (Some c) = lesser a c

-- the least limit of the literals, or the given one
abbrev pub least_limit : Stack → ℕ → Form → Option ℤ → Option ℤ
least_limit s x (const b) a = a
least_limit s x (positive t) a = lesser_limit a (limit_of (coefficient x t.terms) (value s (rest x t)))
least_limit s x (multiple d t) a = a
least_limit s x (no_multiple d t) a = a
least_limit s x (conjunction f g) a = least_limit s x g (least_limit s x f a)
least_limit s x (disjunction f g) a = least_limit s x g (least_limit s x f a)

-- how far c is above a number that differs from j by a multiple of m
abbrev pub excess : ℕ → ℕ → ℤ → ℕ
excess m j c = (unsigned_abs (int_rem_euclid c (pos m)) + (m - j)) % m

-- the greatest number within the limit that differs from j by a multiple of m, and j without a limit
abbrev pub low_value : ℕ → ℕ → Option ℤ → ℤ
low_value m j None = pos j
low_value m j (Some c) = c -ℤ pos (excess m j c)

-- ---- the plain value

-- the first of two values, or the second where it lacks
abbrev pub or_else : Option ℤ → Option ℤ → Option ℤ
or_else None b = b
or_else (Some y) b = Some y

-- the first value that there is at a number from 1 to m
abbrev pub first_to : (ℕ → Option ℤ) → ℕ → Option ℤ
first_to g zero = None
first_to g (suc m) = or_else (first_to g m) (g (suc m))

-- the first value that there is at a member of the list
abbrev pub first_among : (Lin → Option ℤ) → List Lin → Option ℤ
first_among g [] = None
first_among g (b ∷ bs) = or_else (g b) (first_among g bs)

-- y, if the formula is true at s
abbrev pub value_if : Stack → Form → ℤ → Option ℤ
value_if s f y = if evaluates_to s (assertion f) then Some y else None

-- what b + j is worth, if the formula is true there
abbrev pub near_at : Stack → ℕ → Form → Lin → ℕ → Option ℤ
near_at s x f b j = value_if s (near_case x f b j) (value s (plus b (number (pos j))))

-- the first sum of b and a number from 1 to m that works
abbrev pub first_near_bound : Stack → ℕ → Form → ℕ → Lin → Option ℤ
first_near_bound s x f m b = first_to (near_at s x f b) m

-- the first that works, bound by bound
abbrev pub first_near : Stack → ℕ → Form → ℕ → List Lin → Option ℤ
first_near s x f m bs = first_among (first_near_bound s x f m) bs

-- the low number of j, if the minus-infinity form is true at j
abbrev pub low_at : Stack → ℕ → Form → ℕ → ℕ → Option ℤ
low_at s x f m j = value_if s (low_case x f j) (low_value m j (least_limit s x f None))

-- that of the first number from 1 to m that works
abbrev pub first_low : Stack → ℕ → Form → ℕ → Option ℤ
first_low s x f m = first_to (low_at s x f m) m

-- the first that works of the sums of the bounds and the numbers from 1 to m, or else the low number
abbrev pub first_value : Stack → ℕ → Form → ℕ → List Lin → Option ℤ
first_value s x f m bs = or_else (first_near s x f m bs) (first_low s x f m)

-- the plain value of x after the second stage
abbrev pub plain_multiple : Stack → ℕ → Form → Option ℤ
plain_multiple s x f = first_value s x f (period x f 1) (distinct_bounds x f)

-- a value divided by l
abbrev pub divided : ℕ → Option ℤ → Option ℤ
divided l None = None
divided l (Some y) = Some (int_div y (pos l))

-- the plain value of x
abbrev pub plain_value : Stack → Var → Assertion → Option ℤ
plain_value s x p = divided (multiplier (place x) (evaluate (normal_form p)) 1) (plain_multiple s (place x) (evaluate (scaled_form x p)))

-- ---- width

-- a partial sum of r, or the limit, passes 128 bits
abbrev pub IsWideLimit : Stack → ℤ → Lin → Type 0
IsWideLimit s (pos zero) r = ⊥
IsWideLimit s (pos (suc n)) r = (¬ (SumFits s r)) ⊎ (¬ (FitsSigned w128 (neg_ℤ (value s r))))
IsWideLimit s (negsuc n) r = (¬ (SumFits s r)) ⊎ (¬ (FitsSigned w128 (value s r -ℤ pos 1)))

abbrev pub HasWideLimit : Stack → ℕ → Form → Type 0
HasWideLimit s x (const b) = ⊥
HasWideLimit s x (positive t) = IsWideLimit s (coefficient x t.terms) (rest x t)
HasWideLimit s x (multiple d t) = ⊥
HasWideLimit s x (no_multiple d t) = ⊥
HasWideLimit s x (conjunction f g) = HasWideLimit s x f ⊎ HasWideLimit s x g
HasWideLimit s x (disjunction f g) = HasWideLimit s x f ⊎ HasWideLimit s x g

-- a sum b + j, or the formula there, has a partial sum past 128 bits
abbrev pub HasWideNear : Stack → ℕ → Form → Lin → ℕ → Type 0
HasWideNear s x f b j = (¬ (SumFits s (plus b (number (pos j))))) ⊎ (¬ (NumbersFit s (assertion (near_case x f b j))))

-- a low number is there, and it or a limit passes 128 bits
abbrev pub IsWideLow : Stack → ℕ → Form → Option ℤ → Type 0
IsWideLow s x f o = (y : ℤ) × ((o ≡ Some y) × ((¬ (FitsSigned w128 y)) ⊎ HasWideLimit s x f))

-- a sum b + j or the formula there has a partial sum past 128 bits, or no such sum works and
-- the minus-infinity form at a number has one, or the first low number passes 128 bits
abbrev pub HasWideSearch : Stack → ℕ → Form → Type 0
HasWideSearch s x f =
    ((b : Lin) × (Contains (distinct_bounds x f) b × ((j : ℕ) × ((1 ≤ j) × (j ≤ period x f 1) × HasWideNear s x f b j))))
    ⊎ ((first_near s x f (period x f 1) (distinct_bounds x f) ≡ None)
    × (((j : ℕ) × ((1 ≤ j) × (j ≤ period x f 1) × (¬ (NumbersFit s (assertion (low_case x f j)))))) ⊎ IsWideLow s x f (first_low s x f (period x f 1))))

-- at s, a partial sum of the third stage or the plain value of x passes 128 bits
abbrev pub PassesValues : Stack → Var → Assertion → Type 0
PassesValues s x p = HasWideSearch s (place x) (evaluate (scaled_form x p))
