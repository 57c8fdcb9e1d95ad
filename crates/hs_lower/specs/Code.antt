-- The instructions of a block.
use Rattle.std.specs.Prelude.{ℕ, suc, ◌+◌, Bool, true, false, ◌||◌, if◌then◌else◌, List, [], ◌∷◌, ◌++◌, length, Option, Some, None}
use Rattle.std.specs.List.{fold}
use Rattle.hs_tree.specs.declared.ident.Ident.{Ident}
use Rattle.hs_tree.specs.declared.expr.ExprTree.{ExprTree}
use Rattle.hs_tree.specs.declared.method.CondTree.{CondTree}
use Rattle.hs_tree.specs.declared.method.CallTree.{CallTree}
use Rattle.hs_tree.specs.declared.method.ValueTree.{ValueTree}
use Rattle.hs_tree.specs.declared.method.ValueTree.TheVariants as value_of
use Rattle.hs_tree.specs.declared.method.BlockTree.{BlockTree, fold-BlockTree}
use Rattle.hs_tree.specs.declared.method.StatementTree.{StatementTree, fold-StatementTree}
use Rattle.hs_tree.specs.declared.method.StatementKind.TheOpen.{StatementKind-F}
use Rattle.hs_core.specs.declared.instr.Instr.{Instr}
use Rattle.hs_core.specs.declared.instr.Instr.TheVariants.{Assign, New, Get, Set, Branch, Jump, Call, Return}
use Rattle.hs_lower_scope.specs.declared.variable.Field.{Field}
use Rattle.hs_lower_scope.specs.Scope.{Scope, slot_of, kind_of, field_in, node_number, method_number}
use Rattle.hs_lower_scope.specs.Terms.{bare, term_of}
use Rattle.hs_lower.specs.declared.made.Made.{Made}
use Rattle.hs_lower.specs.declared.made.Placed.{Placed}
use Rattle.hs_lower.specs.declared.made.PlacedAll.{PlacedAll}
use Rattle.hs_lower.specs.Conditions.{condition}

-- instructions, the last slot that is used after them, and whether their end can be reached
abbrev pub made : List Instr → ℕ → Bool → Made
made code slots ends = record { code = code; slots = slots; ends = ends }

-- a part of a block: what is made of it at a point, after slots up to a number are used
abbrev pub Part : Type 0
Part = ℕ → ℕ → Made

-- where the else begins: after the jump over it, which is there only where the end of the branch can be reached
abbrev pub else_at : ℕ → Made → ℕ
else_at p a = suc p + length a.code + (if a.ends then 1 else 0)

abbrev pub jump : Bool → ℕ → List Instr
jump true target = Jump target ∷ []
jump false target = []

abbrev pub follow : Made → Made → Made
follow m a = made (m.code ++ a.code) a.slots a.ends

-- one more part of a block that begins at p; where the end before it cannot be reached it gives no instruction
abbrev pub then_part : ℕ → Made → Part → Made
then_part p m part = if m.ends then follow m (part (p + length m.code) m.slots) else m

abbrev pub each : List Part → Part
each parts p n = fold (then_part p) (made [] n true) parts

-- the value goes to the field of the node that a slot has
abbrev pub set_field : ℕ → Placed → Field → Made
set_field at a f = made (a.code ++ Set at f.node f.number a.slot ∷ []) a.slots true

abbrev pub give_one : Placed → Made
give_one a = made (a.code ++ Return (Some a.slot) ∷ []) a.slots false

-- a field that is not there is a fault, and gives no instruction
abbrev pub load_by : ℕ → ℕ → ℕ → Option Field → Made
load_by to at n None = made [] n true
load_by to at n (Some f) = made (Get to at f.node f.number ∷ []) n true

abbrev pub store_by : ℕ → Placed → ℕ → Option Field → Made
store_by at a n None = made [] n true
store_by at a n (Some f) = set_field at a f

module _ (scope : Scope) where
  -- ---- values in slots

  abbrev pub assigned : ℕ → ExprTree → List Instr
  assigned to e = Assign to (term_of scope e) ∷ []

  abbrev pub placed_by : ExprTree → ℕ → Option Ident → Placed
  placed_by e n (Some x) = record { code = []; slots = n; slot = slot_of scope x.text }
  placed_by e n None = record { code = assigned (suc n) e; slots = suc n; slot = suc n }

  -- an argument, a field's value or a result: the slot of a bare variable, or a new slot that is assigned just before
  abbrev pub placed : ExprTree → ℕ → Placed
  placed e n = placed_by e n (bare e)

  abbrev pub beside : PlacedAll → Placed → PlacedAll
  beside all a = record { code = all.code ++ a.code; slots = a.slots; args = all.args ++ a.slot ∷ [] }

  abbrev pub next_placed : PlacedAll → ExprTree → PlacedAll
  next_placed all e = beside all (placed e all.slots)

  -- arguments in their order
  abbrev pub all_placed : List ExprTree → ℕ → PlacedAll
  all_placed es n = fold next_placed (record { code = []; slots = n; args = [] }) es

  -- ---- statements

  -- one instruction after what places its arguments
  abbrev pub after_all : PlacedAll → Instr → Made
  after_all a i = made (a.code ++ i ∷ []) a.slots true

  abbrev pub call : Option ℕ → CallTree → ℕ → Made
  call to c n = let a = all_placed c.args n in after_all a (Call to (method_number scope c.name.text) a.args)

  abbrev pub new_node : ℕ → Ident → List ExprTree → ℕ → Made
  new_node to x args n = let a = all_placed args n in after_all a (New to (node_number scope.defs x.text) a.args)

  abbrev pub field_found : Ident → Ident → Option Field
  field_found x f = field_in scope.defs (kind_of scope x.text) f.text

  abbrev pub load : ℕ → Ident → Ident → ℕ → Made
  load to x f n = load_by to (slot_of scope x.text) n (field_found x f)

  -- the value goes to the slot
  abbrev pub value : ℕ → ValueTree → ℕ → Made
  value to (value_of.New at x args) n = new_node to x args n
  value to (value_of.Call c) n = call (Some to) c n
  value to (value_of.Load x f) n = load to x f n
  value to (value_of.Value e) n = made (assigned to e) n true

  abbrev pub variable_value : Ident → ValueTree → ℕ → Made
  variable_value x v n = value (slot_of scope x.text) v n

  abbrev pub optional_value : Ident → Option ValueTree → ℕ → Made
  optional_value x None n = made [] n true
  optional_value x (Some v) n = variable_value x v n

  abbrev pub store : Ident → Ident → ExprTree → ℕ → Made
  store x f e n = store_by (slot_of scope x.text) (placed e n) n (field_found x f)

  abbrev pub give : Option ExprTree → ℕ → Made
  give None n = made (Return None ∷ []) n false
  give (Some e) n = give_one (placed e n)

  -- ---- branches

  -- without else: what is after the branch comes where the condition is false
  abbrev pub if_then : CondTree → ℕ → Made → Made
  if_then c p a = made (Branch (condition scope c) (suc p + length a.code) ∷ a.code) a.slots true

  abbrev pub if_else : CondTree → ℕ → Made → Made → Made
  if_else c q a b = made (Branch (condition scope c) q ∷ (a.code ++ (jump a.ends (q + length b.code) ++ b.code))) b.slots (a.ends || b.ends)

  abbrev pub branch : CondTree → Part → Option Part → Part
  branch c body None p n = if_then c p (body (suc p) n)
  branch c body (Some other) p n =
      let a = body (suc p) n in
      let q = else_at p a in
      if_else c q a (other q a.slots)

  -- ---- blocks

  abbrev pub kind_part : StatementKind-F Part Part Part → Part
  kind_part (StatementKind-F.Local kind x v) p n = optional_value x v n
  kind_part (StatementKind-F.Assign x v) p n = variable_value x v n
  kind_part (StatementKind-F.Store x f e) p n = store x f e n
  kind_part (StatementKind-F.Call c) p n = call None c n
  kind_part (StatementKind-F.Branch c body other) p n = branch c body other p n
  kind_part (StatementKind-F.Return e) p n = give e n

  abbrev pub statement : StatementTree → Part
  statement = fold-StatementTree Part Part Part kind_part (λ b. each b.statements) (λ s. s.kind)

  abbrev pub block : BlockTree → Part
  block = fold-BlockTree Part Part Part kind_part (λ b. each b.statements) (λ s. s.kind)
