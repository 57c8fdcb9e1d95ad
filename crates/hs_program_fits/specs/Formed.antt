-- Residues that are well formed.
use Rattle.std.specs.Prelude.{ℕ, List, Option, Some, None}
use Rattle.std.specs.List.{AllByRecursion}
use Rattle.hs_heap.specs.declared.formula.Formula.{Formula}
use Rattle.hs_heap.specs.declared.definitions.Defs.{Defs}
use Rattle.hs_goal.specs.declared.goal.Goal.{Goal}
use Rattle.hs_goal.specs.Goal.{IsFreshResidue}
use Rattle.hs_goal.specs.Shape.{SideFits}
use Rattle.hs_rules.specs.Rules.{Judgement}

-- the formula fits below some number
abbrev pub IsFormed : Defs → Formula → Type 0
IsFormed defs f = (n : ℕ) × SideFits defs n f

-- each residue is formed
abbrev pub AllFormed : Defs → List Judgement → Type 0
AllFormed defs ps = AllByRecursion (λ (p : Judgement). IsFormed defs p.residue) ps

-- where a goal is asked, its residue is formed and keeps numbers apart
abbrev pub ResidueIsFormed : Defs → Option Goal → Formula → Type 0
ResidueIsFormed defs None residue = Unit {0}
ResidueIsFormed defs (Some g) residue = IsFormed defs residue × IsFreshResidue g residue
