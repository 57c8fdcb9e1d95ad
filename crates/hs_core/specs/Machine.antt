-- The machine: frames, steps and runs over unbounded integers.
use Rattle.std.specs.Prelude.{◌≡◌, ◌==◌, ℕ, suc, zero, ◌-◌, ℤ, pos, ◌<ℤ◌, ◌⊎◌, Bool, List, [], ◌∷◌, map, Option, Some, None, if◌then◌else◌, slice_get, slice_set, slice_index_or}
use Rattle.hs_pure.specs.Stack.{Stack, number_value}
use Rattle.hs_pure.specs.Truth.{value, TrueAt}
use Rattle.hs_pure.specs.Assertion.{assertion_of}
use Rattle.hs_pure.specs.Eval.{SumFits, NumbersFit}
use Rattle.hs_heap.specs.declared.node.HeapNode.{HeapNode}
use Rattle.hs_heap.specs.Heap.{Heap, find_node, put_node, IsFreePlace}
use Rattle.hs_core.specs.declared.instr.Instr.{Instr}
use Rattle.hs_core.specs.declared.instr.Instr.TheVariants.{Assign, New, Get, Set, Branch, Jump, Call, Return}
use Rattle.hs_core.specs.declared.program.Method.{Method}
use Rattle.hs_core.specs.declared.program.Program.{Program}

-- the item of a number from 1, and d where there is none
abbrev pub numbered : {A : Type 0} → List A → ℕ → A → A
numbered xs zero d = d
numbered xs (suc n) d = slice_index_or xs n d

abbrev pub no_method : Method
no_method = record { name = []; params = 0; slots = 0; result = Bool.false; pairs = []; code = []; refs = [] }

-- the method of a number from 1
abbrev pub method_of : Program → ℕ → Method
method_of program m = numbered program.methods m no_method

-- ---- configurations

-- an integer for each slot; that of slot k stands at k
abbrev pub Slots : Type 0
Slots = ℕ → ℤ

-- slot k is the number variable k of terms and conditions
abbrev pub stack_at : Slots → Stack
stack_at slots v = number_value (if v.bag then pos 0 else slots v.number)

pub record Frame : Type 0 where
  pub method : ℕ
  pub point : ℕ
  pub slots : Slots

-- what a return hands back: the result, and the last values of the reference parameters
pub record Returned : Type 0 where
  pub result : Option ℤ
  pub refs : List ℤ

abbrev pub instruction : Program → Frame → Option Instr
instruction program f = slice_get (method_of program f.method).code f.point

-- f with the value a at k
abbrev pub updated : {A : Type 0} → (ℕ → A) → ℕ → A → ℕ → A
updated f k a j = if j == k then a else f j

-- f with the values at the numbers; of two values at one number the first counts
abbrev pub all_updated : {A : Type 0} → List ℕ → List A → (ℕ → A) → ℕ → A
all_updated [] xs f = f
all_updated (k ∷ ks) [] f = f
all_updated (k ∷ ks) (a ∷ xs) f = updated (all_updated ks xs f) k a

abbrev pub at_point : Frame → ℕ → Frame
at_point f p = record f { point = p }

abbrev pub moved : Frame → Frame
moved f = at_point f (suc f.point)

-- f at its next point, with the value in the slot
abbrev pub set_slot : Frame → ℕ → ℤ → Frame
set_slot f k n = record f { point = suc f.point; slots = updated f.slots k n }

-- the frame of a callee: its k-th argument in slot k, and 0 elsewhere
abbrev pub called : ℕ → List ℤ → Frame
called method values = record { method = method; point = 0; slots = λ k. numbered values k (pos 0) }

-- ---- steps

-- a node of the data type lies at the location
pub record HasNode (h : Heap) (q : ℤ) (kind : ℕ) : Type 0 where
  pub node : HeapNode
  pub found : find_node h q ≡ Some node
  pub kind_is : node.of ≡ kind

-- a positive location without a node
pub record IsFree (h : Heap) (q : ℤ) : Type 0 where
  pub positive : pos 0 <ℤ q
  pub free : find_node h q ≡ None

-- where `New` may put a node
abbrev pub Place : Type 1
Place = Heap → ℤ → Type 0

-- what an instruction that stays in its frame may do
abbrev pub Effect : Place → Instr → Frame → Heap → Frame → Heap → Type 0
Effect P (Assign to term) f h g k = (g ≡ set_slot f to (value (stack_at f.slots) term)) × (k ≡ h)
Effect P (New to kind args) f h g k = (q : ℤ) × P h q × (g ≡ set_slot f to q) × (k ≡ put_node h q (record { of = kind; values = map f.slots args }))
Effect P (Get to at kind field) f h g k = (has : HasNode h (f.slots at) kind) × (g ≡ set_slot f to (numbered has.node.values field (pos 0))) × (k ≡ h)
Effect P (Set at kind field from) f h g k =
    (has : HasNode h (f.slots at) kind) × (g ≡ moved f) × (k ≡ put_node h (f.slots at) (record { of = kind; values = slice_set has.node.values (field - 1) (f.slots from) }))
Effect P (Branch condition other) f h g k =
    ((TrueAt (stack_at f.slots) condition × (g ≡ moved f)) ⊎ ((¬ (TrueAt (stack_at f.slots) condition)) × (g ≡ at_point f other))) × (k ≡ h)
Effect P (Jump target) f h g k = (g ≡ at_point f target) × (k ≡ h)
Effect P (Call to method args) f h g k = ⊥
Effect P (Return from) f h g k = ⊥

abbrev pub returned_value : Option ℕ → Slots → Option ℤ
returned_value None slots = None
returned_value (Some k) slots = Some (slots k)

abbrev pub returned : Program → Frame → Option ℕ → Returned
returned program f from = record { result = returned_value from f.slots; refs = map f.slots (method_of program f.method).refs }

-- the argument slots of the reference parameters
abbrev pub picked : List ℕ → List ℕ → List ℕ
picked args refs = map (λ r. numbered args r 0) refs

-- the result goes to the slot, where there is one
abbrev pub TakesResult : Option ℕ → Option ℤ → Slots → Slots → Type 0
TakesResult None result f g = g ≡ f
TakesResult (Some k) None f g = ⊥
TakesResult (Some k) (Some n) f g = g ≡ updated f k n

-- the caller goes on: the reference arguments and then the result get their values
abbrev pub Resumes : Program → Option Instr → Frame → Returned → Frame → Type 0
Resumes program (Some (Call to method args)) f v g =
    (slots : Slots) × TakesResult to v.result (all_updated (picked args (method_of program method).refs) v.refs f.slots) slots × (g ≡ record f { point = suc f.point; slots = slots })
Resumes program _ f v g = ⊥

-- one step, by the instruction of the first frame
abbrev pub StepsBy : Place → Program → Option Instr → Frame → List Frame → Heap → List Frame → Heap → Type 0
StepsBy P program None f fs h gs k = ⊥
StepsBy P program (Some (Call to method args)) f fs h gs k = (gs ≡ called method (map f.slots args) ∷ f ∷ fs) × (k ≡ h)
StepsBy P program (Some (Return from)) f [] h gs k = ⊥
StepsBy P program (Some (Return from)) f (caller ∷ fs) h gs k = (g : Frame) × Resumes program (instruction program caller) caller (returned program f from) g × (gs ≡ g ∷ fs) × (k ≡ h)
StepsBy P program (Some i) f fs h gs k = (g : Frame) × Effect P i f h g k × (gs ≡ g ∷ fs)

abbrev pub StepsFrom : Place → Program → List Frame → Heap → List Frame → Heap → Type 0
StepsFrom P program [] h gs k = ⊥
StepsFrom P program (f ∷ fs) h gs k = StepsBy P program (instruction program f) f fs h gs k

-- one step: `New` takes any positive location without a node
abbrev pub Step : Program → List Frame → Heap → List Frame → Heap → Type 0
Step program fs h gs k = StepsFrom IsFree program fs h gs k

-- ---- ends

pub data Ending : Type 0 where
  Faulted : (q : ℤ) → Ending
  Finished : (v : Returned) → Ending

-- what the next instruction ends a run with: a fault at a location, or the return of the last frame
abbrev pub EndsBy : Program → Option Instr → Frame → List Frame → Heap → Ending → Type 0
EndsBy program (Some (Get to at kind field)) f fs h e = (HasNode h (f.slots at) kind → ⊥) × (e ≡ Faulted (f.slots at))
EndsBy program (Some (Set at kind field from)) f fs h e = (HasNode h (f.slots at) kind → ⊥) × (e ≡ Faulted (f.slots at))
EndsBy program (Some (Return from)) f [] h e = e ≡ Finished (returned program f from)
EndsBy program _ f fs h e = ⊥

abbrev pub Ends : Program → List Frame → Heap → Ending → Type 0
Ends program [] h e = ⊥
Ends program (f ∷ fs) h e = EndsBy program (instruction program f) f fs h e

-- ---- runs

abbrev pub Stepping : Type 1
Stepping = List Frame → Heap → List Frame → Heap → Type 0

-- a run of n steps
abbrev pub Run : Stepping → ℕ → List Frame → Heap → List Frame → Heap → Type 0
Run S zero fs h gs k = (gs ≡ fs) × (k ≡ h)
Run S (suc n) fs h gs k = (js : List Frame) × (j : Heap) × S fs h js j × Run S n js j gs k

-- ---- runs in 128-bit numbers

-- each product and each partial sum of the instruction's expressions has 128 bits
abbrev pub NumbersOfFit : Option Instr → Slots → Type 0
NumbersOfFit (Some (Assign to term)) slots = SumFits (stack_at slots) term
NumbersOfFit (Some (Branch condition other)) slots = NumbersFit (stack_at slots) (assertion_of condition)
NumbersOfFit _ slots = Unit {0}

abbrev pub NumbersFitHere : Program → List Frame → Type 0
NumbersFitHere program [] = Unit {0}
NumbersFitHere program (f ∷ fs) = NumbersOfFit (instruction program f) f.slots

-- one step of the runner: `New` takes the least location without a node, and the numbers have 128 bits
pub record RunnerStep (program : Program) (fs : List Frame) (h : Heap) (gs : List Frame) (k : Heap) : Type 0 where
  pub step : StepsFrom IsFreePlace program fs h gs k
  pub fits : NumbersFitHere program fs
