-- Plain elimination of a variable: its stages in order, and where one of them passes a bound.
use Rattle.std.specs.Prelude.{ℕ, ◌≤◌, ◌<◌, ◌⊎◌, true, pos}
use Rattle.std.specs.List.{Contains}
use Rattle.hs_pure.specs.declared.var.Var.{Var}
use Rattle.hs_pure.specs.declared.lin.Lin.{Lin}
use Rattle.hs_pure.specs.Assertion.{Assertion}
use Rattle.hs_elimination.specs.Linear.{place, plus, number, IsWideLin}
use Rattle.hs_elimination.specs.Form.{Form, assertion, atoms, IsWide}
use Rattle.hs_elimination.specs.Normal.{normal, evaluate}
use Rattle.hs_elimination.specs.Scaling.{stage2}
use Rattle.hs_elimination.specs.Cases.{distinct_bounds, period, stage3}

-- the first stage
abbrev pub normal_form : Assertion → Form
normal_form p = normal true p

-- the second stage
abbrev pub scaled_form : Var → Assertion → Form
scaled_form x p = stage2 x (evaluate (normal_form p))

-- the third stage
abbrev pub cases_form : Var → Assertion → Form
cases_form x p = stage3 x (evaluate (scaled_form x p))

-- what is left after the third stage
abbrev pub eliminated : Var → Assertion → Form
eliminated x p = evaluate (cases_form x p)

-- the result as an assertion
abbrev pub without_variable : Var → Assertion → Assertion
without_variable x p = assertion (eliminated x p)

-- ---- bounds

-- a lower bound b of the formula, or a sum b + j of its third stage, passes 128 bits
abbrev pub HasWideSum : ℕ → Form → Type 0
HasWideSum x f = (b : Lin) × (Contains (distinct_bounds x f) b × (IsWideLin b ⊎ ((j : ℕ) × ((1 ≤ j) × (j ≤ period x f 1) × IsWideLin (plus b (number (pos j)))))))

-- a number of the third stage passes 128 bits
abbrev pub HasWideCases : Var → Assertion → Type 0
HasWideCases x p = IsWide (cases_form x p) ⊎ HasWideSum (place x) (evaluate (scaled_form x p))

-- a stage has at most `budget` atoms and no number past 128 bits
abbrev pub IsWithin : ℕ → Form → Type 0
IsWithin budget f = (atoms f ≤ budget) × (¬ (IsWide f))

-- no stage passes a bound
pub record StaysWithin (budget : ℕ) (x : Var) (p : Assertion) : Type 0 where
  pub first : IsWithin budget (normal_form p)
  pub second : IsWithin budget (scaled_form x p)
  pub third_atoms : atoms (cases_form x p) ≤ budget
  pub third_bits : ¬ (HasWideCases x p)

-- the first stage that passes a bound has more than `budget` atoms
abbrev pub PassesAtoms : ℕ → Var → Assertion → Type 0
PassesAtoms budget x p =
    (budget < atoms (normal_form p))
    ⊎ (IsWithin budget (normal_form p) × (budget < atoms (scaled_form x p)))
    ⊎ (IsWithin budget (normal_form p) × IsWithin budget (scaled_form x p) × (budget < atoms (cases_form x p)))

-- the first stage that passes a bound has at most `budget` atoms and a number past 128 bits
abbrev pub PassesBits : ℕ → Var → Assertion → Type 0
PassesBits budget x p =
    ((atoms (normal_form p) ≤ budget) × IsWide (normal_form p))
    ⊎ (IsWithin budget (normal_form p) × (atoms (scaled_form x p) ≤ budget) × IsWide (scaled_form x p))
    ⊎ (IsWithin budget (normal_form p) × IsWithin budget (scaled_form x p) × (atoms (cases_form x p) ≤ budget) × HasWideCases x p)
