-- Frames of the code as those of the machine, and what one instruction does.
use Rattle.std.specs.Prelude.{◌≡◌, ℕ, suc, ◌+◌, ◌<◌, ◌^◌, ℤ, pos, false, List, [], ◌∷◌, Option, Some, None, length, map, reverse}
use Rattle.std.specs.List.{All}
use Rattle.hs_pure.specs.declared.var.Var.{Var}
use Rattle.hs_pure.specs.Eval.{has_quantifiers}
use Rattle.hs_heap.specs.declared.node.HeapNode.{HeapNode}
use Rattle.hs_heap.specs.declared.definitions.Defs.{Defs}
use Rattle.hs_heap.specs.Heap.{Heap, find_node, IsFreePlace}
use Rattle.hs_core.specs.declared.instr.Instr.{Instr}
use Rattle.hs_core.specs.declared.instr.Instr.TheVariants.{Assign, New, Get, Set, Branch, Jump, Call, Return}
use Rattle.hs_core.specs.declared.program.Program.{Program}
use Rattle.hs_core.specs.Machine.{numbered, method_of, Slots, HasNode, Effect, NumbersOfFit, NumbersFitHere, RunnerStep, Ends, Faulted, Finished, Resumes, returned, instruction}
use Rattle.hs_core.specs.Machine as machine
use Rattle.hs_core.specs.Sound.{IsUpTo, IsSlot, IsSoundProgram}
use Rattle.hs_heap.specs.Sound.{HeapFits}
use Rattle.hs_machine.specs.declared.frame.Frame.{Frame}
use Rattle.hs_machine.specs.declared.machine.Machine.{Machine}
use Rattle.hs_machine.specs.declared.simple.Turn.{Turn}
use Rattle.hs_machine.specs.declared.simple.Turn.TheVariants as turn

-- slot k stands at k - 1, and any other is worth 0
abbrev pub slots_of : List ℤ → Slots
slots_of xs k = numbered xs k (pos 0)

abbrev pub frame_of : Frame → machine.Frame
frame_of f = record { method = f.method; point = f.point; slots = slots_of f.slots }

-- the frame and its callers, the last of the list first
abbrev pub frames_of : Machine → List machine.Frame
frames_of m = frame_of m.frame ∷ map frame_of (reverse m.callers)

-- the values with the variables n, n + 1 and so on
abbrev pub listed_vars : ℕ → List ℤ → List (Var × ℤ)
listed_vars n [] = []
listed_vars n (x ∷ xs) = (record { number = n; bag = false }, x) ∷ listed_vars (suc n) xs

-- ---- instructions that stay in their frame

abbrev pub TermsAreSlots : ℕ → List (Var × ℤ) → Type 0
TermsAreSlots n ts = All (λ t. IsSlot n t.0) ts

-- the slot is one of n, where there is one
abbrev pub HasSlot : ℕ → Option ℕ → Type 0
HasSlot n None = Unit {0}
HasSlot n (Some k) = IsUpTo n k

-- the point and the number of slots are u32 also one further
abbrev pub HasRoom : Frame → Type 0
HasRoom f = (f.point + 1 < 2 ^ 32) × (length f.slots < 2 ^ 32)

-- the node lies at the place and is of the data type
pub record FindsNode (h : Heap) (q : ℤ) (kind : ℕ) (n : HeapNode) : Type 0 where
  pub found : find_node h q ≡ Some n
  pub kind_is : n.of ≡ kind

-- nodes of the data type have the field
abbrev pub NodesHave : Heap → ℕ → ℕ → Type 0
NodesHave h kind field = (q : ℤ) (n : HeapNode) → FindsNode h q kind n → IsUpTo (length n.values) field

-- what an instruction asks of a frame with n slots and of the heap
abbrev pub CanDo : Instr → ℕ → Heap → Type 0
CanDo (Assign to term) n h = IsUpTo n to × TermsAreSlots n term.terms
CanDo (New to kind args) n h = IsUpTo n to × All (IsUpTo n) args
CanDo (Get to at kind field) n h = (IsUpTo n to × IsUpTo n at) × NodesHave h kind field
CanDo (Set at kind field from) n h = (IsUpTo n at × IsUpTo n from) × NodesHave h kind field
CanDo (Branch condition other) n h = has_quantifiers condition ≡ false
CanDo (Jump target) n h = Unit {0}
CanDo (Call to method args) n h = ⊥
CanDo (Return from) n h = ⊥

-- the instruction faults at the location
abbrev pub Misses : Instr → Slots → Heap → ℤ → Type 0
Misses (Get to at kind field) slots h q = (HasNode h (slots at) kind → ⊥) × (q ≡ slots at)
Misses (Set at kind field from) slots h q = (HasNode h (slots at) kind → ⊥) × (q ≡ slots at)
Misses _ slots h q = ⊥

-- what such an instruction did with a frame and a heap
abbrev pub Did : Instr → Frame → Heap → Turn → Frame → Heap → Type 0
Did i f h turn.Done g k = Effect IsFreePlace i (frame_of f) h (frame_of g) k × NumbersOfFit (Some i) (slots_of f.slots) × (length g.slots ≡ length f.slots)
Did i f h (turn.Fault q) g k = Misses i (slots_of f.slots) h q × (g ≡ f) × (k ≡ h)
Did i f h turn.Wide g k = (¬ (NumbersOfFit (Some i) (slots_of f.slots))) × (g ≡ f) × (k ≡ h)
Did i f h (turn.Returned result refs) g k = ⊥

-- ---- frames of a program

-- a frame of a method that is there, at an instruction that is there
pub record FrameIn (program : Program) (f : Frame) : Type 0 where
  pub method : IsUpTo (length program.methods) f.method
  pub point : f.point < length (method_of program f.method).code
  pub slots : length f.slots ≡ (method_of program f.method).slots
  -- slots are numbered by u32
  pub few : length f.slots < 2 ^ 32

-- the instruction calls the method
abbrev pub Calls : Option Instr → ℕ → Type 0
Calls (Some (Call to method args)) m = method ≡ m
Calls _ m = ⊥

-- the frames wait for a method, each by its call, the next one first
abbrev pub AreWaiting : Program → ℕ → List Frame → Type 0
AreWaiting program m [] = Unit {0}
AreWaiting program m (f ∷ fs) = FrameIn program f × Calls (instruction program (frame_of f)) m × AreWaiting program f.method fs

-- instructions are numbered by u32
abbrev pub IsShort : Program → Type 0
IsShort program = (m : ℕ) → length (method_of program m).code < 2 ^ 32

-- a machine that can go on
pub record IsReady (program : Program) (m : Machine) : Type 0 where
  pub defs : Defs
  pub sound : IsSoundProgram defs program
  pub short : IsShort program
  pub frame : FrameIn program m.frame
  pub waiting : AreWaiting program m.frame.method (reverse m.callers)
  pub heap : HeapFits defs m.heap

-- what a run begins with
pub record CanBegin (program : Program) (method : ℕ) (args : List ℤ) (h : Heap) : Type 0 where
  pub defs : Defs
  pub sound : IsSoundProgram defs program
  pub short : IsShort program
  pub there : IsUpTo (length program.methods) method
  pub count : length args ≡ (method_of program method).params
  pub heap : HeapFits defs h

-- ---- returns

-- a caller can take back the result
abbrev pub TakesBackBy : Program → Option Instr → ℕ → Option ℤ → Type 0
TakesBackBy program (Some (Call None method args)) n result = All (IsUpTo n) args × IsUpTo (length program.methods) method × All (IsUpTo (length args)) (method_of program method).refs
TakesBackBy program (Some (Call (Some to) method args)) n result = All (IsUpTo n) args × IsUpTo (length program.methods) method × All (IsUpTo (length args)) (method_of program method).refs
    × IsUpTo n to × ((x : ℤ) × (result ≡ Some x))
TakesBackBy program _ n result = ⊥

abbrev pub TakesBack : Program → Frame → Option ℤ → Type 0
TakesBack program f result = TakesBackBy program (instruction program (frame_of f)) (length f.slots) result

-- the caller after it
pub record IsResumed (program : Program) (f : Frame) (result : Option ℤ) (refs : List ℤ) (g : Frame) : Type 0 where
  pub resumes : Resumes program (instruction program (frame_of f)) (frame_of f) (record { result = result; refs = refs }) (frame_of g)
  pub slots : length g.slots ≡ length f.slots

pub record CanGive (program : Program) (m : Machine) (from : Option ℕ) : Type 0 where
  pub ready : IsReady program m
  pub is : instruction program (frame_of m.frame) ≡ Some (Return from)

-- ---- turns

-- what the next instruction did
abbrev pub IsTurn : Program → Machine → Turn → Machine → Type 0
IsTurn program m turn.Done n = RunnerStep program (frames_of m) m.heap (frames_of n) n.heap × IsReady program n
IsTurn program m (turn.Fault q) n = Ends program (frames_of m) m.heap (Faulted q) × (n ≡ m)
IsTurn program m turn.Wide n = (¬ (NumbersFitHere program (frames_of m))) × (n ≡ m)
IsTurn program m (turn.Returned result refs) n = Ends program (frames_of m) m.heap (Finished (record { result = result; refs = refs })) × (n.heap ≡ m.heap)

abbrev pub IsGiven : Program → Machine → Option ℕ → Turn → Machine → Type 0
IsGiven program m from turn n = IsTurn program m turn n
