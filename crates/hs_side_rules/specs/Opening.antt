-- Disjuncts with new numbers for what they bind.
use Rattle.std.specs.Prelude.{ℕ, suc, ◌≤◌, ◌^◌, List, [], ◌∷◌}
use Rattle.std.specs.List.{All}
use Rattle.hs_pure.specs.declared.var.Var.{Var}
use Rattle.hs_heap.specs.declared.formula.Disjunct.{Disjunct}
use Rattle.hs_heap.specs.declared.formula.Formula.{Formula}
use Rattle.hs_heap.specs.declared.definitions.Defs.{Defs}
use Rattle.hs_heap.specs.Variables.{occurs_in_disjunct}
use Rattle.hs_heap.specs.WellFormed.{IsProper}
use Rattle.hs_goal.specs.Shape.{AreBelow, SideFits}
use Rattle.hs_goal.specs.Classes.{the_case}

-- what the disjunct binds may get numbers from next on
pub record CanBeOpened (next : ℕ) (d : Disjunct) : Type 0 where
  pub few : next ≤ 2 ^ 30
  pub numbers : AreBelow next (λ v. occurs_in_disjunct v d)
  pub pure : All IsProper d.pure

-- each variable with a number of its own, from n on
abbrev pub fresh_pairs : List Var → ℕ → List (Var × Var)
fresh_pairs [] n = []
fresh_pairs (b ∷ bs) n = (b, record { number = n; bag = b.bag }) ∷ fresh_pairs bs (suc n)

-- the disjunct of a side that fits can be opened
abbrev pub FittingCasesCanBeOpened : Type 0
FittingCasesCanBeOpened = (defs : Defs) (next : ℕ) (f : Formula) → SideFits defs next f → next ≤ 2 ^ 30 → CanBeOpened next (the_case f)
