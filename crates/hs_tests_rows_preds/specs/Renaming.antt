-- Formulas of atoms alone.
use Rattle.hs_pure.specs.declared.var.Var.{Var}
use Rattle.hs_heap.specs.declared.formula.Formula.{Formula}
use Rattle.hs_heap.specs.Renamed.{FormulaKeepsApart, FormulaInRange}

-- every renaming may rename it
abbrev pub MayBeRenamed : Formula → Type 0
MayBeRenamed f = (ρ : Var → Var) → FormulaKeepsApart ρ f × FormulaInRange ρ f
