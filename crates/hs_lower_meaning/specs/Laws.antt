-- What the layers above use of what lowered methods do.
use Rattle.std.specs.Prelude.{◌≡◌, ℕ, suc, ℤ, List, [], ◌∷◌, length, Option, Some, Ok, slice_get}
use Rattle.hs_heap.specs.Heap.{Heap}
use Rattle.hs_norm.specs.declared.resolved.MethodTree.{MethodTree}
use Rattle.hs_norm.specs.declared.resolved.Resolved.{Resolved}
use Rattle.hs_core.specs.declared.program.Program.{Program}
use Rattle.hs_core.specs.Machine.{Place, Frame, called, StepsFrom, Run, Ends, Faulted, Finished}
use Rattle.hs_lower.specs.Lowering.{lowered}
use Rattle.hs_lower_sound.specs.Lowerable.{IsLowerable}
use Rattle.hs_lower_meaning.specs.Blocks.{Runs, Gives, Fails}

-- The k-th method of the program does what the block of the k-th method of the source does, where new nodes lie at
-- places of P: where this gives a result, a run returns it with the same heap; where it fails at a location, a run
-- faults there.
abbrev pub BlocksAreRun : Place → Type 0
BlocksAreRun P = (r : Resolved) (p : Program) → IsLowerable r → lowered r ≡ Ok p → (k : ℕ) (m : MethodTree) → slice_get r.methods k ≡ Some m →
    (args : List ℤ) (h : Heap) → length args ≡ length m.params →
    ((v : Option ℤ) (l : Heap) → Runs r P m args h (Gives v l) →
    (n : ℕ) × (fs : List Frame) × Run (StepsFrom P p) n (called (suc k) args ∷ []) h fs l × Ends p fs l (Finished (record { result = v; refs = [] })))
    × ((q : ℤ) → Runs r P m args h (Fails q) → (n : ℕ) × (fs : List Frame) × (l : Heap) × Run (StepsFrom P p) n (called (suc k) args ∷ []) h fs l × Ends p fs l (Faulted q))
