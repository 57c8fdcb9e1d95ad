-- The text of core programs.
use Rattle.std.specs.Prelude.{ℕ, ◌+◌, List, [], ◌∷◌, ◌++◌, codes, Option, Some, None}
use Rattle.std.specs.List.{flat_map}
use Rattle.std.specs.Fmt.{decimal}
use Rattle.hs_numbering.specs.declared.names.Names.{Names}
use Rattle.hs_pure.specs.declared.lin.Lin.{Lin}
use Rattle.hs_pure.specs.declared.pure.Pure.{Pure}
use Rattle.hs_heap.specs.declared.definitions.NodeDef.{NodeDef}
use Rattle.hs_heap.specs.declared.definitions.Defs.{Defs}
use Rattle.hs_core.specs.declared.instr.Instr.{Instr}
use Rattle.hs_core.specs.declared.instr.Instr.TheVariants.{Assign, New, Get, Set, Branch, Jump, Call, Return}
use Rattle.hs_core.specs.declared.program.Method.{Method}
use Rattle.hs_core.specs.declared.program.Program.{Program}
use Rattle.hs_print.specs.Lists.{each_after}
use Rattle.hs_print.specs.Formula.{numbered, node_name}
use Rattle.hs_print.specs.Linear.{linear_text}
use Rattle.hs_print.specs.Pure.{pure_text}
use Rattle.hs_core_text.specs.Slots.{slot_text, slots_text, slot_names}

-- a text and the end of its line
abbrev pub ended : List ℕ → List ℕ
ended text = text ++ 10 ∷ []

-- ---- names, by number from 1; what is not there has none

abbrev pub field_here : Option (List ℕ × Option ℕ) → List ℕ
field_here None = []
field_here (Some field) = field.0

abbrev pub field_name : Option NodeDef → ℕ → List ℕ
field_name None k = []
field_name (Some node) k = field_here (numbered node.fields k)

abbrev pub method_here : Option Method → List ℕ
method_here None = []
method_here (Some m) = m.name

abbrev pub kind_name : Defs → ℕ → List ℕ
kind_name defs kind = node_name (numbered defs.nodes kind)

abbrev pub method_name : Program → ℕ → List ℕ
method_name program k = method_here (numbered program.methods k)

-- ---- instructions

-- a field of the node at a slot
abbrev pub field_text : Defs → ℕ → ℕ → ℕ → List ℕ
field_text defs at kind field = slot_text at ++ (codes "." ++ (kind_name defs kind ++ (codes "." ++ field_name (numbered defs.nodes kind) field)))

-- where a result goes
abbrev pub target_text : Option ℕ → List ℕ
target_text None = []
target_text (Some to) = slot_text to ++ codes " = "

abbrev pub return_text : Option ℕ → List ℕ
return_text None = codes "return"
return_text (Some from) = codes "return " ++ slot_text from

-- a name with slots behind it
abbrev pub applied_text : List ℕ → List ℕ → List ℕ
applied_text name args = name ++ (codes "(" ++ (slots_text args ++ codes ")"))

abbrev pub assign_text : Names → ℕ → Lin → List ℕ
assign_text names to term = slot_text to ++ (codes " = " ++ linear_text (Some names) term)

abbrev pub new_text : Defs → ℕ → ℕ → List ℕ → List ℕ
new_text defs to kind args = slot_text to ++ (codes " = new " ++ applied_text (kind_name defs kind) args)

abbrev pub get_text : Defs → ℕ → ℕ → ℕ → ℕ → List ℕ
get_text defs to at kind field = slot_text to ++ (codes " = " ++ field_text defs at kind field)

abbrev pub set_text : Defs → ℕ → ℕ → ℕ → ℕ → List ℕ
set_text defs at kind field from = field_text defs at kind field ++ (codes " = " ++ slot_text from)

abbrev pub branch_text : Names → Pure → ℕ → List ℕ
branch_text names condition other = codes "if " ++ (pure_text (Some names) condition ++ (codes " else " ++ decimal other))

abbrev pub call_text : Program → Option ℕ → ℕ → List ℕ → List ℕ
call_text program to method args = target_text to ++ (codes "call " ++ applied_text (method_name program method) args)

-- the reference parameters, where there are some
abbrev pub refs_text : List ℕ → List ℕ
refs_text [] = []
refs_text (r ∷ refs) = codes " refs" ++ each_after (codes " ") decimal (r ∷ refs)

abbrev pub head_text : Method → List ℕ
head_text m = codes "method " ++ (m.name ++ (codes " params " ++ (decimal m.params ++ (codes " slots " ++ (decimal m.slots ++ ended (refs_text m.refs))))))

module _ (defs : Defs) (program : Program) where
  abbrev pub instr_text : Names → Instr → List ℕ
  instr_text names (Assign to term) = assign_text names to term
  instr_text names (New to kind args) = new_text defs to kind args
  instr_text names (Get to at kind field) = get_text defs to at kind field
  instr_text names (Set at kind field from) = set_text defs at kind field from
  instr_text names (Branch condition other) = branch_text names condition other
  instr_text names (Jump target) = codes "jump " ++ decimal target
  instr_text names (Call to method args) = call_text program to method args
  instr_text names (Return from) = return_text from

  -- a line for each instruction, with its number
  abbrev pub code_text : Names → ℕ → List Instr → List ℕ
  code_text names i [] = []
  code_text names i (instr ∷ code) = (codes "  " ++ (decimal i ++ (codes ": " ++ ended (instr_text names instr)))) ++ code_text names (i + 1) code

  abbrev pub method_text : Method → List ℕ
  method_text m = head_text m ++ code_text (slot_names m.slots) 0 m.code

  abbrev pub core_text : List ℕ
  core_text = flat_map method_text program.methods
