-- The third stage, Cooper's disjunction, for a variable with the coefficients 1, -1 and 0.
use Rattle.std.specs.Prelude.{ℕ, zero, suc, Bool, true, false, ◌||◌, List, [], ◌∷◌, ◌++◌, map, ℤ, pos, negsuc, if◌then◌else◌}
use Rattle.hs_pure.specs.declared.var.Var.{Var}
use Rattle.hs_pure.specs.declared.lin.Lin.{Lin}
use Rattle.hs_elimination.specs.Linear.{place, plus, times, number, coefficient, rest, same_lin}
use Rattle.hs_elimination.specs.Form.{Form, const, positive, multiple, no_multiple, conjunction, disjunction, some_of}
use Rattle.hs_elimination.specs.Lcm.{lcm}

-- ---- substitution

-- c * u + r
abbrev pub substitute_by : ℤ → Lin → Lin → Lin
substitute_by (pos zero) u r = r
substitute_by (pos (suc n)) u r = plus (times (pos (suc n)) u) r
substitute_by (negsuc n) u r = plus (times (negsuc n) u) r

abbrev pub substitute_lin : ℕ → Lin → Lin → Lin
substitute_lin x u t = substitute_by (coefficient x t.terms) u (rest x t)

-- u in the place of x
abbrev pub substitute : ℕ → Lin → Form → Form
substitute x u (const b) = const b
substitute x u (positive t) = positive (substitute_lin x u t)
substitute x u (multiple d t) = multiple d (substitute_lin x u t)
substitute x u (no_multiple d t) = no_multiple d (substitute_lin x u t)
substitute x u (conjunction f g) = conjunction (substitute x u f) (substitute x u g)
substitute x u (disjunction f g) = disjunction (substitute x u f) (substitute x u g)

-- ---- the minus-infinity form

-- 0 < c * x + .. at all x that are small enough
abbrev pub positive_below : ℤ → Lin → Form
positive_below (pos zero) t = positive t
positive_below (pos (suc n)) t = const false
positive_below (negsuc n) t = const true

abbrev pub minus_infinity : ℕ → Form → Form
minus_infinity x (const b) = const b
minus_infinity x (positive t) = positive_below (coefficient x t.terms) t
minus_infinity x (multiple d t) = multiple d t
minus_infinity x (no_multiple d t) = no_multiple d t
minus_infinity x (conjunction f g) = conjunction (minus_infinity x f) (minus_infinity x g)
minus_infinity x (disjunction f g) = disjunction (minus_infinity x f) (minus_infinity x g)

-- ---- lower bounds

-- the b of 0 < x - b
abbrev pub lower_bound : ℤ → Lin → List Lin
lower_bound (pos zero) t = []
lower_bound (pos (suc n)) t = times (negsuc 0) t ∷ []
lower_bound (negsuc n) t = []

abbrev pub lower_bounds : ℕ → Form → List Lin
lower_bounds x (const b) = []
lower_bounds x (positive t) = lower_bound (coefficient x t.terms) (rest x t)
lower_bounds x (multiple d t) = []
lower_bounds x (no_multiple d t) = []
lower_bounds x (conjunction f g) = lower_bounds x f ++ lower_bounds x g
lower_bounds x (disjunction f g) = lower_bounds x f ++ lower_bounds x g

abbrev pub has_lin : Lin → List Lin → Bool
has_lin a [] = false
has_lin a (b ∷ bs) = same_lin a b || has_lin a bs

-- the first list, and after it those of the second that are new, in order
abbrev pub join_distinct : List Lin → List Lin → List Lin
join_distinct done [] = done
join_distinct done (a ∷ more) = join_distinct (if has_lin a done then done else done ++ a ∷ []) more

-- each lower bound once
abbrev pub distinct_bounds : ℕ → Form → List Lin
distinct_bounds x f = join_distinct [] (lower_bounds x f)

-- ---- divisors

abbrev pub period_with : ℕ → ℕ → ℤ → ℕ
period_with m d (pos zero) = m
period_with m d (pos (suc n)) = lcm m d
period_with m d (negsuc n) = lcm m d

-- the least common multiple of m and of the divisors of the literals with x
abbrev pub period : ℕ → Form → ℕ → ℕ
period x (const b) m = m
period x (positive t) m = m
period x (multiple d t) m = period_with m d (coefficient x t.terms)
period x (no_multiple d t) m = period_with m d (coefficient x t.terms)
period x (conjunction f g) m = period x g (period x f m)
period x (disjunction f g) m = period x g (period x f m)

-- ---- the disjunction

-- the minus-infinity form at j, and then the formula at b + j for each b of the list
abbrev pub cases_at : ℕ → Form → List Lin → ℕ → List Form
cases_at x f bs j =
    substitute x (number (pos j)) (minus_infinity x f) ∷ map (λ b. substitute x (plus b (number (pos j))) f) bs

-- the same for each j from 1 to m
abbrev pub cases_to : ℕ → Form → List Lin → ℕ → List Form
cases_to x f bs zero = []
cases_to x f bs (suc j) = cases_to x f bs j ++ cases_at x f bs (suc j)

abbrev pub cooper : ℕ → List Lin → ℕ → Form → Form
cooper m bs x f = some_of (cases_to x f bs m)

abbrev pub stage3 : Var → Form → Form
stage3 x f = cooper (period (place x) f 1) (distinct_bounds (place x) f) (place x) f
