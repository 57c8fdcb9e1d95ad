-- The line of `run`: how a run of a method on a heap text ends, or why there is none.
use Rattle.std.specs.Prelude.{◌≡◌, ◌⊎◌, ℕ, suc, ◌≤◌, ℤ, List, [], ◌∷◌, length, Option, Some, None}
use Rattle.std.specs.List.{All, position}
use Rattle.std.specs.Str.{bytes_eq}
use Rattle.hs_heap.specs.declared.definitions.Defs.{Defs}
use Rattle.hs_heap.specs.Heap.{Heap}
use Rattle.hs_heaptext.specs.Text.{heap_text}
use Rattle.hs_heaptext.specs.Reading.{States, IsBadLine}
use Rattle.hs_norm.specs.declared.resolved.Resolved.{Resolved}
use Rattle.hs_core.specs.declared.program.Method.{Method}
use Rattle.hs_core.specs.declared.program.Program.{Program}
use Rattle.hs_core.specs.Machine.{method_of}
use Rattle.hs_core.specs.Sound.{IsUpTo}
use Rattle.hs_machine.specs.End.{IsEnd}
use Rattle.hs_machine.specs.declared.runner.RunAnswer.{RunAnswer}
use Rattle.hs_machine.specs.declared.runner.RunAnswer.TheVariants as answer
use Rattle.hs_machine.specs.declared.runner.RunEnd.{RunEnd}
use Rattle.hs_print.specs.declared.line.Line.{Line}
use Rattle.hs_print.specs.declared.line.Line.TheVariants as line
use Rattle.hs_print.specs.declared.refusal.Refusal.{Refusal}
use Rattle.hs_print.specs.declared.refusal.Refusal.TheVariants.{HeapLine, UnknownMethod, MethodTakes}
use Rattle.hs_core_lines.specs.Core.{HasProgram, HasLoweringFault}
use Rattle.hs_core_lines.specs.declared.error.CoreError.{CoreError}
use Rattle.hs_core_lines.specs.declared.error.CoreError.TheVariants.{Refused, Memory}

-- no method has more than 4,096 instructions
abbrev pub IsShortProgram : Program → Type 0
IsShortProgram program = All (λ m. length m.code ≤ 4096) program.methods

-- ---- the method of a name

abbrev pub number_by_place : Option ℕ → ℕ
number_by_place None = 0
number_by_place (Some i) = suc i

-- the number from 1 of the first method of a name, or 0
abbrev pub number_of : Program → List ℕ → ℕ
number_of program name = number_by_place (position (λ (m : Method). bytes_eq m.name name) program.methods)

-- the first method of a name, with its number
pub record IsMethod (program : Program) (name : List ℕ) (number : ℕ) (m : Method) : Type 0 where
  pub named : number ≡ number_of program name
  pub there : IsUpTo (length program.methods) number
  pub is : m ≡ method_of program number

-- ---- the start of a run

-- the arguments and the heap that the text states, and the first method of the name, which takes so many arguments
pub record Starts (defs : Defs) (program : Program) (name text : List ℕ) (number : ℕ) (args : List ℤ) (h : Heap) : Type 0 where
  pub states : States defs text args h
  pub named : number ≡ number_of program name
  pub there : IsUpTo (length program.methods) number
  pub count : length args ≡ (method_of program number).params

-- why a run does not start: a bad line of the heap text, else an unknown method, else another number of arguments
abbrev pub HasStartFault : Defs → Program → (name text : List ℕ) → Refusal → Type 0
HasStartFault defs program name text (HeapLine n) = IsBadLine defs text n
HasStartFault defs program name text (UnknownMethod x) =
    (x ≡ name) × ((args : List ℤ) × (h : Heap) × States defs text args h) × (number_of program name ≡ 0)
HasStartFault defs program name text (MethodTakes x n) =
    (x ≡ name) × (1 ≤ number_of program name) × (n ≡ (method_of program (number_of program name)).params)
    × ((args : List ℤ) × (h : Heap) × States defs text args h × ¬ (length args ≡ n))
HasStartFault defs program name text _ = ⊥

-- ---- the end of a run

module _ (defs : Defs) (program : Program) where
  abbrev pub answer_line : RunEnd → RunAnswer → Line
  answer_line end (answer.Returned result) = line.Returned result end.done (heap_text defs [] end.heap)
  answer_line end answer.Running = line.Running end.done
  answer_line end (answer.Fault number point place) = line.Fault (method_of program number).name point place
  answer_line end (answer.Wide number point) = line.RunWide (method_of program number).name point

  -- the line that tells the end of a run
  abbrev pub end_line : RunEnd → Line
  end_line end = answer_line end end.answer

-- ---- the answer

-- the source has a core program, the run starts, it ends like this after at most so many steps, and the line tells it
pub record AreRunLines (r : Resolved) (name text : List ℕ) (steps : ℕ) (lines : List Line) : Type 0 where
  pub program : Program
  pub lowered : HasProgram r program
  pub number : ℕ
  pub args : List ℤ
  pub heap : Heap
  pub starts : Starts r.defs program name text number args heap
  pub end : RunEnd
  pub ends : IsEnd program number args heap steps end
  pub is : lines ≡ end_line r.defs program end ∷ []

-- the run is refused: for the first fault of the source, or else for that of its start
abbrev pub HasRunFault : Resolved → (name text : List ℕ) → Refusal → Type 0
HasRunFault r name text cause =
    HasLoweringFault r cause ⊎ ((program : Program) × HasProgram r program × HasStartFault r.defs program name text cause)

-- ---- errors: a refusal has its fault, and want of memory needs none

abbrev pub HasHeapCause : Defs → List ℕ → CoreError → Type 0
HasHeapCause defs text (Refused (HeapLine n)) = IsBadLine defs text n
HasHeapCause defs text (Refused _) = ⊥
HasHeapCause defs text Memory = Unit {0}

abbrev pub HasStartCause : Defs → Program → (name text : List ℕ) → CoreError → Type 0
HasStartCause defs program name text (Refused cause) = HasStartFault defs program name text cause
HasStartCause defs program name text Memory = Unit {0}

abbrev pub HasRunCause : Resolved → (name text : List ℕ) → CoreError → Type 0
HasRunCause r name text (Refused cause) = HasRunFault r name text cause
HasRunCause r name text Memory = Unit {0}
