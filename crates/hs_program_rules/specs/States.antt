-- Symbolic states, and which are well formed.
use Rattle.std.specs.Prelude.{◌≡◌, ℕ, ◌-◌, ◌<◌, ◌≤◌, ◌^◌, ◌⊎◌, false, List, [], ◌++◌, length, map, replicate, Option, Some, None, slice_get}
use Rattle.hs_pure.specs.declared.var.Var.{Var}
use Rattle.hs_heap.specs.declared.formula.Formula.{Formula}
use Rattle.hs_heap.specs.declared.definitions.Defs.{Defs}
use Rattle.hs_goal.specs.Shape.{SideFits}
use Rattle.hs_core.specs.declared.instr.Instr.{Instr}
use Rattle.hs_core.specs.declared.program.Pair.{Pair}
use Rattle.hs_core.specs.declared.program.Method.{Method}
use Rattle.hs_core.specs.declared.program.Program.{Program}
use Rattle.hs_core.specs.declared.state.At.{At}
use Rattle.hs_core.specs.Machine.{numbered, method_of}
use Rattle.hs_core.specs.Sound.{IsUpTo, IsSlot, param_vars}

-- ---- methods and pairs, numbered from 1

abbrev pub no_formula : Formula
no_formula = record { cases = [] }

abbrev pub no_pair : Pair
no_pair = record { pre = no_formula; post = no_formula; logic = []; next = 0; variant = None }

-- the pair of a number
abbrev pub pair_of : Method → ℕ → Pair
pair_of m i = numbered m.pairs i no_pair

-- the method and the pair of a state, and the instruction that is next there
abbrev pub method_at : Program → At → Method
method_at program at = method_of program at.method

abbrev pub pair_at : Program → At → Pair
pair_at program at = pair_of (method_at program at) at.pair

abbrev pub instruction_at : Program → At → Option Instr
instruction_at program at = slice_get (method_at program at).code at.point

-- ---- what slots hold

-- for each slot the variable that has its value, where one has; slot k stands at k - 1
abbrev pub Held : Type 0
Held = List (Option Var)

-- the variable of a slot, where one has its value
abbrev pub held_in : Held → ℕ → Option Var
held_in held k = numbered held k None

abbrev pub var_or : Var → Option Var → Var
var_or v None = v
var_or v (Some w) = w

-- the number variable of a number
abbrev pub number_var : ℕ → Var
number_var n = record { number = n; bag = false }

-- the variable of a slot; where none has its value, any
abbrev pub variable_in : Held → ℕ → Var
variable_in held k = var_or (number_var 0) (held_in held k)

-- a variable has the value of the slot
abbrev pub IsHeld : Held → ℕ → Type 0
IsHeld held k = held_in held k ≡ Some (variable_in held k)

-- ---- well formed states

-- a slot's variable is a parameter's, or a number variable that the pair does not have
abbrev pub IsOwn : Method → Pair → Var → Type 0
IsOwn m p v = IsSlot m.params v ⊎ ((v.bag ≡ false) × (p.next ≤ v.number))

-- what is asked of a state
pub record StateFits (defs : Defs) (program : Program) (at : At) : Type 0 where
  pub method : IsUpTo (length program.methods) at.method
  pub pair : IsUpTo (length (method_at program at).pairs) at.pair
  pub point : at.point < length (method_at program at).code
  pub slots : length at.state.slots ≡ (method_at program at).slots
  pub held : (k : ℕ) (v : Var) → held_in at.state.slots k ≡ Some v → IsOwn (method_at program at) (pair_at program at) v × (v.number < at.state.next)
  pub not_below : (pair_at program at).next ≤ at.state.next
  pub few : at.state.next ≤ 2 ^ 30
  pub formula : SideFits defs at.state.next at.state.formula

-- ---- the start of a pair

-- slot k of a parameter holds the variable k, other slots hold nothing
abbrev pub entry_held : Method → Held
entry_held m = map (λ v. Some v) (param_vars m) ++ replicate (m.slots - m.params) None

-- the precondition at the first instruction
abbrev pub entry : Program → ℕ → ℕ → At
entry program m i =
    let p = pair_of (method_of program m) i in
    record { method = m; pair = i; point = 0; state = record { slots = entry_held (method_of program m); formula = p.pre; next = p.next } }
