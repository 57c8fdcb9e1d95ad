-- Entailments with a residue, also over heaps up to a size.
use Rattle.std.specs.Prelude.{ℕ, ◌≤◌, List, [], length}
use Rattle.hs_pure.specs.Stack.{Stack}
use Rattle.hs_pure.specs.declared.var.Var.{Var}
use Rattle.hs_heap.specs.declared.formula.Atom.{Atom}
use Rattle.hs_heap.specs.declared.formula.Formula.{Formula}
use Rattle.hs_heap.specs.declared.definitions.Defs.{Defs}
use Rattle.hs_heap.specs.Heap.{Heap, IsHeap, Parts}
use Rattle.hs_heap.specs.Meaning.{SameBut, Satisfies, SatisfiesAtoms}

-- for some values of the open variables the heap is a part that satisfies the right side and a rest that
-- satisfies the residue
pub record Splits (defs : Defs) (opens : List Var) (right residue : Formula) (s : Stack) (h : Heap) : Type 0 where
  pub at : Stack
  pub same : SameBut opens s at
  pub part : Heap
  pub rest : Heap
  pub parts : Parts h part rest
  pub right_holds : Satisfies defs at part right
  pub residue_holds : Satisfies defs at rest residue

-- each heap of at most `size` nodes whose one part satisfies the used atoms, and whose other part satisfies
-- the left side: that other part splits
pub record EntailsUpTo (size : ℕ) (defs : Defs) (used : List Atom) (left : Formula) (opens : List Var) (right residue : Formula) : Type 0 where
  pub splits : (s : Stack) (h spent rest : Heap) → IsHeap h → length h ≤ size → Parts h spent rest →
      SatisfiesAtoms defs s spent used → Satisfies defs s rest left → Splits defs opens right residue s rest

-- the same over all heaps
abbrev pub EntailsBeside : Defs → List Atom → Formula → List Var → Formula → Formula → Type 0
EntailsBeside defs used left opens right residue = (size : ℕ) → EntailsUpTo size defs used left opens right residue

-- every stack and heap that satisfies the left side splits into a part that satisfies the right side and a
-- rest that satisfies the residue; a residue without disjuncts says that there is no such stack and heap
abbrev pub Entails : Defs → Formula → List Var → Formula → Formula → Type 0
Entails defs left opens right residue = EntailsBeside defs [] left opens right residue
