-- The second stage: the coefficients of x become 1 or -1, where x stands for its multiple by l.
use Rattle.std.specs.Prelude.{ℕ, zero, suc, ◌*◌, ◌/◌, ℤ, pos, negsuc}
use Rattle.hs_pure.specs.declared.var.Var.{Var}
use Rattle.hs_pure.specs.declared.lin.Lin.{Lin}
use Rattle.hs_elimination.specs.Linear.{place, plus, times, single, coefficient, rest}
use Rattle.hs_elimination.specs.Form.{Form, const, positive, multiple, no_multiple, conjunction, disjunction}
use Rattle.hs_elimination.specs.Lcm.{lcm}

-- the least common multiple of m and of c, if that is not 0
abbrev pub multiplier_with : ℕ → ℤ → ℕ
multiplier_with m (pos zero) = m
multiplier_with m (pos (suc n)) = lcm m (suc n)
multiplier_with m (negsuc n) = lcm m (suc n)

-- the least common multiple of m and of the coefficients of x
abbrev pub multiplier : ℕ → Form → ℕ → ℕ
multiplier x (const b) m = m
multiplier x (positive t) m = multiplier_with m (coefficient x t.terms)
multiplier x (multiple d t) m = multiplier_with m (coefficient x t.terms)
multiplier x (no_multiple d t) m = multiplier_with m (coefficient x t.terms)
multiplier x (conjunction f g) m = multiplier x g (multiplier x f m)
multiplier x (disjunction f g) m = multiplier x g (multiplier x f m)

-- what a sum with the coefficient c of x is multiplied by
abbrev pub factor : ℕ → ℤ → ℕ
factor l (pos zero) = 1
factor l (pos (suc n)) = l / suc n
factor l (negsuc n) = l / suc n

abbrev pub scale_by : ℕ → Var → ℤ → Lin → Lin → Lin
scale_by l x (pos zero) r t = t
scale_by l x (pos (suc n)) r t = plus (single x (pos 1)) (times (pos (l / suc n)) r)
scale_by l x (negsuc n) r t = plus (single x (negsuc 0)) (times (pos (l / suc n)) r)

-- the factor times t, with x in place of l * x
abbrev pub scale_lin : ℕ → Var → Lin → Lin
scale_lin l x t = scale_by l x (coefficient (place x) t.terms) (rest (place x) t) t

abbrev pub scale : ℕ → Var → Form → Form
scale l x (const b) = const b
scale l x (positive t) = positive (scale_lin l x t)
scale l x (multiple d t) = multiple (d * factor l (coefficient (place x) t.terms)) (scale_lin l x t)
scale l x (no_multiple d t) = no_multiple (d * factor l (coefficient (place x) t.terms)) (scale_lin l x t)
scale l x (conjunction f g) = conjunction (scale l x f) (scale l x g)
scale l x (disjunction f g) = disjunction (scale l x f) (scale l x g)

-- with the divisibility of x by l
abbrev pub scaled : ℕ → Var → Form → Form
scaled l x f = conjunction (scale l x f) (multiple l (single x (pos 1)))

abbrev pub stage2 : Var → Form → Form
stage2 x f = scaled (multiplier (place x) f 1) x f
