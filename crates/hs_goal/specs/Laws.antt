-- What the layers above use of goals.
use Rattle.std.specs.Prelude.{◌≡◌, ℕ, ◌≤◌, ◌^◌, false, IsTrue, List, []}
use Rattle.hs_pure.specs.declared.var.Var.{Var}
use Rattle.hs_heap.specs.declared.formula.Formula.{Formula}
use Rattle.hs_heap.specs.declared.definitions.Defs.{Defs}
use Rattle.hs_heap.specs.Meaning.{is_in}
use Rattle.hs_heap.specs.Variables.{is_free_in_formula}
use Rattle.hs_heap.specs.Sound.{AreDistinct, FormulaFits}
use Rattle.hs_goal.specs.Goal.{start}
use Rattle.hs_goal.specs.Shape.{AreBelow, SideFits, GoalFits}

-- a formula that fits beside any free variables is a side
abbrev pub FittingFormulasAreSides : Type 0
FittingFormulasAreSides = (defs : Defs) (free : List Var) (next : ℕ) (f : Formula) → FormulaFits defs free next f → SideFits defs next f

-- a side that fits below n fits below every greater number
abbrev pub SidesAreOfNext : Type 0
SidesAreOfNext = (defs : Defs) (n m : ℕ) (f : Formula) → n ≤ m → SideFits defs n f → SideFits defs m f

-- a goal without used atoms is well formed where its sides and its open variables fit
abbrev pub StartIsWellFormed : Type 0
StartIsWellFormed = (defs : Defs) (left : Formula) (opens : List Var) (right : Formula) (next : ℕ) →
    SideFits defs next left → SideFits defs next right → ¬ (right.cases ≡ []) → next ≤ 2 ^ 30 →
    AreBelow next (λ v. is_in v opens) → AreDistinct opens → ((v : Var) → IsTrue (is_in v opens) → is_free_in_formula v left ≡ false) →
    GoalFits defs (start left opens right next)
