-- What the layers above use of founded definitions.
use Rattle.std.specs.Prelude.{◌≡◌, suc, length}
use Rattle.hs_pure.specs.Stack.{Stack}
use Rattle.hs_heap.specs.declared.formula.Formula.{Formula}
use Rattle.hs_heap.specs.declared.definitions.Defs.{Defs}
use Rattle.hs_heap.specs.Heap.{Heap}
use Rattle.hs_heap.specs.Meaning.{Satisfies, SatisfiesAtDepth}
use Rattle.hs_wf.specs.declared.error.WfError.{WfError}
use Rattle.hs_wf.specs.declared.error.WfError.TheVariants.{Memory}
use Rattle.hs_wf.specs.Founded.{IsFounded}
use Rattle.hs_wf.specs.Faults.{IsFirstFault}

-- where definitions are founded, the size of the heap plus one is depth enough
abbrev pub DepthIsEnough : Type 0
DepthIsEnough = (defs : Defs) → IsFounded defs → (s : Stack) (h : Heap) (f : Formula) →
    Satisfies defs s h f → SatisfiesAtDepth defs (suc (length h)) s h f

-- definitions with a first fault are not founded
abbrev pub FaultsExcludeFounded : Type 0
FaultsExcludeFounded = (defs : Defs) (fault : WfError) → IsFirstFault defs fault → ¬ (fault ≡ Memory) → ¬ (IsFounded defs)

-- definitions have one first fault
abbrev pub FirstFaultsAreUnique : Type 0
FirstFaultsAreUnique = (defs : Defs) (fault other : WfError) → IsFirstFault defs fault → IsFirstFault defs other
    → ¬ (fault ≡ Memory) → ¬ (other ≡ Memory) → fault ≡ other
