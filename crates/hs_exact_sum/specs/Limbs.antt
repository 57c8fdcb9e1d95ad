-- Numbers in limbs of 64 bits.
use Rattle.std.specs.Prelude.{◌≡◌, ℕ, ◌^◌, ℤ, pos, ◌+ℤ◌, ◌*ℤ◌, Option, Some, None, FitsSigned}
use mir.Syntax.{w128}
use Rattle.hs_exact_sum.specs.declared.limbs.Limbs.{Limbs}

-- 2^64 times the one, and the other
abbrev pub joined : ℤ → ℕ → ℤ
joined high low = high *ℤ pos (2 ^ 64) +ℤ pos low

-- the number that the limbs say
abbrev pub number_of : Limbs → ℤ
number_of l = joined (joined (joined l.rest l.third) l.second) l.first

-- the number, or nothing where it has more than 128 bits
abbrev pub IsExact : Option ℤ → ℤ → Type 0
IsExact (Some x) z = x ≡ z
IsExact None z = ¬ (FitsSigned w128 z)
