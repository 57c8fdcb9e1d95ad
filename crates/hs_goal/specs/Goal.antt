-- What goals mean, and which numbers a residue keeps apart.
use Rattle.std.specs.Prelude.{ℕ, ◌≤◌, Bool, false, ◌||◌, IsTrue, List, []}
use Rattle.std.specs.List.{list_any, All}
use Rattle.hs_pure.specs.declared.var.Var.{Var}
use Rattle.hs_heap.specs.declared.formula.Disjunct.{Disjunct}
use Rattle.hs_heap.specs.declared.formula.Formula.{Formula}
use Rattle.hs_heap.specs.declared.definitions.Defs.{Defs}
use Rattle.hs_heap.specs.Entailment.{EntailsUpTo, EntailsBeside}
use Rattle.hs_heap.specs.Variables.{in_atom, is_free_in_formula}
use Rattle.hs_goal.specs.declared.goal.Goal.{Goal}

-- the goal of an entailment
abbrev pub start : Formula → List Var → Formula → ℕ → Goal
start left opens right next = record { used = []; left = left; opens = opens; right = right; next = next; looked = false }

-- the goal holds with a residue over heaps of at most so many nodes
abbrev pub HoldsUpTo : ℕ → Defs → Goal → Formula → Type 0
HoldsUpTo size defs g residue = EntailsUpTo size defs g.used g.left g.opens g.right residue

-- the goal holds with a residue
abbrev pub Holds : Defs → Goal → Formula → Type 0
Holds defs g residue = EntailsBeside defs g.used g.left g.opens g.right residue

-- whether v is free in a goal
abbrev pub is_free_in_goal : Var → Goal → Bool
is_free_in_goal v g = list_any (in_atom v) g.used || (is_free_in_formula v g.left || is_free_in_formula v g.right)

-- what a residue binds has a number that the goal leaves for new ones, and what is free in it is free in the goal
pub record IsFreshResidue (g : Goal) (residue : Formula) : Type 0 where
  pub bound : All (λ (d : Disjunct). All (λ (v : Var). g.next ≤ v.number) d.bound) residue.cases
  pub free : (v : Var) → IsTrue (is_free_in_formula v residue) → IsTrue (is_free_in_goal v g)
