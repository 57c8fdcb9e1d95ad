-- Which frames and heaps fit a state, and when a state is safe.
use Rattle.std.specs.Prelude.{◌≡◌, ℕ, ◌<◌, ℤ, List, [], ◌∷◌, length, Option, Some, None}
use Rattle.hs_pure.specs.Stack.{Stack, with_value, number_value}
use Rattle.hs_pure.specs.declared.var.Var.{Var}
use Rattle.hs_heap.specs.declared.definitions.Defs.{Defs}
use Rattle.hs_heap.specs.Heap.{Heap, IsHeap, Parts}
use Rattle.hs_heap.specs.Meaning.{Satisfies}
use Rattle.hs_core.specs.declared.program.Pair.{Pair}
use Rattle.hs_core.specs.declared.program.Method.{Method}
use Rattle.hs_core.specs.declared.program.Program.{Program}
use Rattle.hs_core.specs.declared.state.At.{At}
use Rattle.hs_core.specs.Machine.{Slots, Frame, Returned, Ending, Faulted, Finished, Run, Step, Ends}
use Rattle.hs_program_rules.specs.States.{Held, held_in, pair_at, method_at}
use Rattle.hs_program_rules.specs.Parts.{result_var, last_vars}

-- each slot that holds a variable has its value
abbrev pub SlotsFit : Held → Stack → Slots → Type 0
SlotsFit held s slots = (k : ℕ) (v : Var) → held_in held k ≡ Some v → slots k ≡ (s v).number

-- and the heap satisfies the state's formula
pub record Fits (defs : Defs) (s : Stack) (at : At) (slots : Slots) (h : Heap) : Type 0 where
  pub slots_fit : SlotsFit at.state.slots s slots
  pub formula : Satisfies defs s h at.state.formula

abbrev pub frame_at : At → Slots → Frame
frame_at at slots = record { method = at.method; point = at.point; slots = slots }

-- ---- what a return leaves

abbrev pub with_numbers : List Var → List ℤ → Stack → Stack
with_numbers [] ns s = s
with_numbers (v ∷ vs) [] s = s
with_numbers (v ∷ vs) (n ∷ ns) s = with_value v (number_value n) (with_numbers vs ns s)

abbrev pub with_result : Var → Option ℤ → Stack → Stack
with_result v None s = s
with_result v (Some n) s = with_value v (number_value n) s

-- the stack of a postcondition: what was returned, beside the values at the start
abbrev pub stack_after : Method → Returned → Stack → Stack
stack_after m v s = with_result (result_var m) v.result (with_numbers (last_vars m) v.refs s)

-- the rest is as it was, and a part of what is beside it satisfies the postcondition
pub record EndsWell (defs : Defs) (m : Method) (p : Pair) (s : Stack) (rest : Heap) (v : Returned) (h : Heap) : Type 0 where
  pub own : Heap
  pub parts : Parts h own rest
  pub part : Heap
  pub other : Heap
  pub inner : Parts own part other
  pub post : Satisfies defs (stack_after m v s) part p.post
  -- what is left is a heap, and there is a last value for each reference parameter
  pub is_heap : IsHeap h
  pub arity : length v.refs ≡ length m.refs

-- a run that faults does not end well
abbrev pub IsGoodEnd : Defs → Method → Pair → Stack → Heap → Ending → Heap → Type 0
IsGoodEnd defs m p s rest (Faulted q) h = ⊥
IsGoodEnd defs m p s rest (Finished v) h = EndsWell defs m p s rest v h

-- a run of fewer than n steps comes to frames and a heap at which the next instruction ends it
pub record EndsWithin (program : Program) (n : ℕ) (fs : List Frame) (h : Heap) (e : Ending) (now : Heap) : Type 0 where
  pub steps : ℕ
  pub few : steps < n
  pub frames : List Frame
  pub run : Run (Step program) steps fs h frames now
  pub ends : Ends program frames now e

-- each run that ends within n steps, from a frame and a heap that fit, beside any rest, ends well
pub record IsSafe (defs : Defs) (program : Program) (n : ℕ) (at : At) : Type 0 where
  pub ends_well : (s : Stack) (slots : Slots) (h own rest : Heap) (e : Ending) (now : Heap) → IsHeap h → Parts h own rest → Fits defs s at slots own →
      EndsWithin program n (frame_at at slots ∷ []) h e now → IsGoodEnd defs (method_at program at) (pair_at program at) s rest e now
