-- The core program of a source in normal form, or its first fault.
use Rattle.std.specs.Prelude.{ℕ, nat_lt, Bool, true, false, not, ◌&&◌, if◌then◌else◌, List, [], ◌∷◌, ◌++◌, length, map, Option, Some, None, Result, Ok, Err, is_some}
use Rattle.std.specs.List.{fold}
use Rattle.hs_tree.specs.declared.method.BlockTree.{out-BlockTree}
use Rattle.hs_norm_item.specs.declared.forms.PairTree.{PairTree}
use Rattle.hs_norm.specs.declared.resolved.MethodTree.{MethodTree}
use Rattle.hs_norm.specs.declared.resolved.Resolved.{Resolved}
use Rattle.hs_core.specs.declared.instr.Instr.{Instr}
use Rattle.hs_core.specs.declared.instr.Instr.TheVariants.{Return}
use Rattle.hs_core.specs.declared.program.Pair.{Pair}
use Rattle.hs_core.specs.declared.program.Method.{Method}
use Rattle.hs_core.specs.declared.program.Program.{Program}
use Rattle.hs_lower_scope.specs.Scope.{Scope, scope_of}
use Rattle.hs_lower_faults.specs.declared.error.LowerError.{LowerError}
use Rattle.hs_lower_faults.specs.declared.error.LowerError.TheVariants.{TooLong}
use Rattle.hs_lower_faults.specs.First.{or_earlier}
use Rattle.hs_lower_faults.specs.Faults.{method_fault}
use Rattle.hs_lower.specs.declared.made.Made.{Made}
use Rattle.hs_lower.specs.Code.{made, block}

-- ---- code

abbrev pub last_return : Bool → List Instr
last_return true = Return None ∷ []
last_return false = []

-- a method without result returns at its end, where that can be reached
abbrev pub with_return : Bool → Made → Made
with_return gives m = made (m.code ++ last_return (m.ends && not gives)) m.slots false

-- the instructions of a method, which begin at 0
abbrev pub code_of : Scope → MethodTree → Made
code_of scope m = with_return (is_some m.result) (block scope m.block 0 (length scope.variables))

-- ---- the program

abbrev pub pair_of : PairTree → Pair
pair_of p = record { pre = p.pair_pre; post = p.pair_post; logic = p.logic; next = p.next; variant = p.variant }

abbrev pub method_by : MethodTree → Made → Method
method_by m made = record { name = m.name; params = length m.params; slots = made.slots; result = is_some m.result; pairs = map pair_of m.pairs; code = made.code; refs = [] }

abbrev pub method_of : Resolved → MethodTree → Method
method_of r m = method_by m (code_of (scope_of r m) m)

abbrev pub program_of : Resolved → Program
program_of r = record { methods = map (method_of r) r.methods }

-- ---- faults

abbrev pub or_long : ℕ → List Instr → Option LowerError → Option LowerError
or_long at code (Some f) = Some f
or_long at code None = if nat_lt 4096 (length code) then Some (TooLong at) else None

-- the first fault of a method: only one without others may be too long
abbrev pub fault_of : Resolved → MethodTree → Option LowerError
fault_of r m = or_long (out-BlockTree m.block).end (method_of r m).code (method_fault (scope_of r m) m)

-- the first fault of a source, of several at one place the one named first
abbrev pub first_fault : Resolved → Option LowerError
first_fault r = fold or_earlier None (map (fault_of r) r.methods)

abbrev pub or_fault : Program → Option LowerError → Result Program LowerError
or_fault p None = Ok p
or_fault p (Some f) = Err f

-- the program, where no method has a fault
abbrev pub lowered : Resolved → Result Program LowerError
lowered r = or_fault (program_of r) (first_fault r)
