-- What goals mean over any meaning of predicates.
use Rattle.std.proofs.Common.{ℕ, ◌≤◌, List, length}
use Rattle.hs_pure.specs.declared.var.Var.{Var}
use Rattle.hs_pure.specs.Stack.{Stack}
use Rattle.hs_heap.specs.declared.formula.Formula.{Formula}
use Rattle.hs_heap.specs.declared.definitions.Defs.{Defs}
use Rattle.hs_heap.specs.Heap.{Heap, IsHeap, Parts}
use Rattle.hs_heap.specs.Meaning.{Meaning, SameBut, AtomsHold, FormulaHolds}
use Rattle.hs_heap.proofs.Least.{least, satisfies_from_least, least_from_satisfies, satisfies_atoms_from_least, least_from_satisfies_atoms}
use Rattle.hs_goal.specs.declared.goal.Goal.{Goal}
use Rattle.hs_goal.specs.Goal.{HoldsUpTo}

pub record SplitsBy (x : Meaning) (opens : List Var) (right residue : Formula) (s : Stack) (h : Heap) : Type 0 where
  pub at : Stack
  pub same : SameBut opens s at
  pub part : Heap
  pub rest : Heap
  pub parts : Parts h part rest
  pub right_holds : FormulaHolds x at part right
  pub residue_holds : FormulaHolds x at rest residue

-- the goal holds with this residue over heaps of at most m nodes
pub record HoldsTo (x : Meaning) (m : ℕ) (g : Goal) (residue : Formula) : Type 0 where
  pub splits : (s : Stack) (h hu hr : Heap) → IsHeap h → length h ≤ m → Parts h hu hr →
      AtomsHold x s hu g.used → FormulaHolds x s hr g.left → SplitsBy x g.opens g.right residue s hr

module _ (defs : Defs) (m : ℕ) (g : Goal) (r : Formula) where
  -- where predicates have their least meaning it is what the goal means
  pub holds_from : HoldsTo (least defs) m g r → HoldsUpTo m defs g r
  holds_from holds = record {
    splits = λ s h hu hr is_heap size parts used left.
        let out = holds.splits s h hu hr is_heap size parts (least_from_satisfies_atoms defs s hu g.used used) (least_from_satisfies defs s hr g.left left) in
        record {
          at = out.at;
          same = out.same;
          part = out.part;
          rest = out.rest;
          parts = out.parts;
          right_holds = satisfies_from_least defs out.at out.part g.right out.right_holds;
          residue_holds = satisfies_from_least defs out.at out.rest r out.residue_holds;
        };
  }

  pub holds_into : HoldsUpTo m defs g r → HoldsTo (least defs) m g r
  holds_into holds = record {
    splits = λ s h hu hr is_heap size parts used left.
        let out = holds.splits s h hu hr is_heap size parts (satisfies_atoms_from_least defs s hu g.used used) (satisfies_from_least defs s hr g.left left) in
        record {
          at = out.at;
          same = out.same;
          part = out.part;
          rest = out.rest;
          parts = out.parts;
          right_holds = least_from_satisfies defs out.at out.part g.right out.right_holds;
          residue_holds = least_from_satisfies defs out.at out.rest r out.residue_holds;
        };
  }
