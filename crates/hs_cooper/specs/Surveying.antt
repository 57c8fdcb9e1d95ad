-- Sizes and least common multiples of lists.
use Rattle.std.specs.Prelude.{◌≡◌, ℕ, ◌<◌, ◌≤◌, List, [], ◌∷◌}
use Rattle.hs_elimination.specs.Form.{Form, const, positive, multiple, no_multiple, conjunction, disjunction, atoms}
use Rattle.hs_elimination.specs.Scaling.{multiplier}
use Rattle.hs_elimination.specs.Cases.{minus_infinity, period}
use Rattle.hs_cooper_forms.specs.declared.nnf.Nnf.{Nnf}
use Rattle.hs_cooper_forms.specs.Reading.{form_of}

-- the atoms of the minus-infinity form
abbrev pub low_atoms : ℕ → Form → ℕ
low_atoms x f = atoms (minus_infinity x f)

-- the multiplier of one after another
abbrev pub multiplier_of_all : ℕ → List Nnf → ℕ → ℕ
multiplier_of_all x [] m = m
multiplier_of_all x (f ∷ fs) m = multiplier_of_all x fs (multiplier x (form_of f) m)

-- the period of one after another
abbrev pub period_of_all : ℕ → List Nnf → ℕ → ℕ
period_of_all x [] m = m
period_of_all x (f ∷ fs) m = period_of_all x fs (period x (form_of f) m)

-- n is the least common multiple p, and is at most the budget
pub record IsPeriod (budget p n : ℕ) : Type 0 where
  pub value : n ≡ p
  pub positive : 0 < n
  pub within : n ≤ budget

-- no divisor is 0
abbrev pub HasPositive : Form → Type 0
HasPositive (const b) = Unit {0}
HasPositive (positive t) = Unit {0}
HasPositive (multiple d t) = 0 < d
HasPositive (no_multiple d t) = 0 < d
HasPositive (conjunction f g) = HasPositive f × HasPositive g
HasPositive (disjunction f g) = HasPositive f × HasPositive g

abbrev pub AllPositive : List Nnf → Type 0
AllPositive [] = Unit {0}
AllPositive (f ∷ fs) = HasPositive (form_of f) × AllPositive fs
