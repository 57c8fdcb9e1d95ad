-- A formula of linear integer arithmetic in one variable x, after the coefficients of x have become 1 or -1: every other variable has its value, so a literal is known by one integer.
use Rattle.std.specs.Prelude.{◌≡◌, ℕ, ◌*◌, ◌≤◌, ◌⊎◌, ℤ, pos, ◌+ℤ◌, ◌*ℤ◌, ◌<ℤ◌, ◌≤ℤ◌}

-- d divides z
abbrev pub Divides : ℕ → ℤ → Type 0
Divides d z = (q : ℤ) × (z ≡ q *ℤ pos d)

pub data Form : Type 1 where
  const : Type 0 → Form  -- a literal without x
  above : ℤ → Form  -- b < x
  below : ℤ → Form  -- x < a
  multiple : ℕ → ℤ → Form  -- d divides x + t
  no_multiple : ℕ → ℤ → Form
  both : Form → Form → Form
  either : Form → Form → Form

abbrev pub Holds : ℤ → Form → Type 0
Holds x (const p) = p
Holds x (above b) = b <ℤ x
Holds x (below a) = x <ℤ a
Holds x (multiple d t) = Divides d (x +ℤ t)
Holds x (no_multiple d t) = ¬ (Divides d (x +ℤ t))
Holds x (both f g) = Holds x f × Holds x g
Holds x (either f g) = Holds x f ⊎ Holds x g

-- what f is worth at all x that are small enough, and periodic
abbrev pub minus_infinity : Form → Form
minus_infinity (const b) = const b
minus_infinity (above b) = const ⊥
minus_infinity (below a) = const (Unit {0})
minus_infinity (multiple d t) = multiple d t
minus_infinity (no_multiple d t) = no_multiple d t
minus_infinity (both f g) = both (minus_infinity f) (minus_infinity g)
minus_infinity (either f g) = either (minus_infinity f) (minus_infinity g)

-- some literal of f is b < x
abbrev pub IsLowerBound : Form → ℤ → Type 0
IsLowerBound (const c) b = ⊥
IsLowerBound (above c) b = c ≡ b
IsLowerBound (below a) b = ⊥
IsLowerBound (multiple d t) b = ⊥
IsLowerBound (no_multiple d t) b = ⊥
IsLowerBound (both f g) b = IsLowerBound f b ⊎ IsLowerBound g b
IsLowerBound (either f g) b = IsLowerBound f b ⊎ IsLowerBound g b

-- each divisor of f divides m
abbrev pub DivisorsDivide : ℕ → Form → Type 0
DivisorsDivide m (const c) = Unit {0}
DivisorsDivide m (above b) = Unit {0}
DivisorsDivide m (below a) = Unit {0}
DivisorsDivide m (multiple d t) = (c : ℕ) × (m ≡ c * d)
DivisorsDivide m (no_multiple d t) = (c : ℕ) × (m ≡ c * d)
DivisorsDivide m (both f g) = DivisorsDivide m f × DivisorsDivide m g
DivisorsDivide m (either f g) = DivisorsDivide m f × DivisorsDivide m g

-- one of Cooper's instances is true: the minus-infinity form at some j from 1 to m, or f at b + j for some b of those given
abbrev pub HasInstance : ℕ → (ℤ → Type 0) → Form → Type 0
HasInstance m bounds f =
    (j : ℕ) × (1 ≤ j) × (j ≤ m) × (Holds (pos j) (minus_infinity f) ⊎ ((b : ℤ) × bounds b × Holds (b +ℤ pos j) f))

-- ---- plain values
-- y is below every upper bound and above no lower bound
abbrev pub IsLow : ℤ → Form → Type 0
IsLow y (const p) = Unit {0}
IsLow y (above b) = y ≤ℤ b
IsLow y (below a) = y <ℤ a
IsLow y (multiple d t) = Unit {0}
IsLow y (no_multiple d t) = Unit {0}
IsLow y (both f g) = IsLow y f × IsLow y g
IsLow y (either f g) = IsLow y f × IsLow y g

-- y differs from z by a multiple of m
abbrev pub IsCongruent : ℕ → ℤ → ℤ → Type 0
IsCongruent m y z = (k : ℤ) × (y ≡ z +ℤ k *ℤ pos m)
