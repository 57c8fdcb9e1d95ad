-- Where a variable is read that is not set.
use Rattle.std.specs.Prelude.{ℕ, nat_eq, nat_le, Bool, true, false, ◌&&◌, ◌||◌, List, length, Option, Some, None}
use Rattle.std.specs.List.{fold}
use Rattle.hs_tree.specs.declared.ident.Ident.{Ident}
use Rattle.hs_tree.specs.declared.expr.PartTree.{PartTree}
use Rattle.hs_tree.specs.declared.expr.ExprTree.{ExprTree}
use Rattle.hs_tree.specs.declared.method.ValueTree.{ValueTree}
use Rattle.hs_tree.specs.declared.method.ValueTree.TheVariants as value_of
use Rattle.hs_tree.specs.declared.method.CondTree.{CondTree, fold-CondTree}
use Rattle.hs_tree.specs.declared.method.TestTree.{TestTree, fold-TestTree}
use Rattle.hs_tree.specs.declared.method.TestKind.TheOpen.{TestKind-F}
use Rattle.hs_tree.specs.declared.method.BlockTree.{BlockTree, fold-BlockTree}
use Rattle.hs_tree.specs.declared.method.StatementTree.{StatementTree, fold-StatementTree}
use Rattle.hs_tree.specs.declared.method.StatementKind.TheOpen.{StatementKind-F}
use Rattle.hs_norm.specs.declared.resolved.MethodTree.{MethodTree}
use Rattle.hs_lower_scope.specs.Scope.{Scope, slot_of}
use Rattle.hs_lower_scope.specs.Terms.{parts_of, part_variable}
use Rattle.hs_lower_faults.specs.declared.error.LowerError.{LowerError}
use Rattle.hs_lower_faults.specs.First.{Check, both, all, optional, is_set}

-- ---- what is set

-- of each slot, whether it is set
abbrev pub SetSlots : Type 0
SetSlots = ℕ → Bool

-- a place that cannot be reached sets everything
abbrev pub all_set : SetSlots
all_set k = true

abbrev pub with_slot : ℕ → SetSlots → SetSlots
with_slot j s k = nat_eq k j || s k

-- what both have set
abbrev pub both_set : SetSlots → SetSlots → SetSlots
both_set s t k = s k && t k

-- the slots of parameters are the first ones
abbrev pub params_set : ℕ → SetSlots
params_set count k = nat_le k count

-- ---- what is read

module _ (scope : Scope) (s : SetSlots) where
  abbrev pub variable : Ident → Check
  variable x = is_set (s (slot_of scope x.text)) x.at

  abbrev pub part : Bool × PartTree → Check
  part p = optional variable (part_variable p)

  abbrev pub expression : ExprTree → Check
  expression e = all part (parts_of e.kind)

  abbrev pub value : ValueTree → Check
  value (value_of.New at x args) = all expression args
  value (value_of.Call c) = all expression c.args
  value (value_of.Load x f) = variable x
  value (value_of.Value e) = expression e

  abbrev pub test_by : TestKind-F Check Check Check → Check
  test_by (TestKind-F.Not t) = t
  test_by (TestKind-F.Group c) = c
  test_by (TestKind-F.Rel r a b) = both (expression a) (expression b)

  abbrev pub test : TestTree → Check
  test = fold-TestTree Check Check Check test_by (λ c. all (all (λ t. t)) c.cases) (λ t. t.kind)

  abbrev pub condition : CondTree → Check
  condition = fold-CondTree Check Check Check test_by (λ c. all (all (λ t. t)) c.cases) (λ t. t.kind)

-- ---- blocks

-- the first fault so far, what is set, and whether the place can be reached
pub record State : Type 0 where
  pub found : Option LowerError
  pub set : SetSlots
  pub ends : Bool

abbrev pub state : Option LowerError → SetSlots → Bool → State
state found set ends = record { found = found; set = set; ends = ends }

-- a part of a block, from what is so before it to what is so after it
abbrev pub Part : Type 0
Part = State → State

abbrev pub if_ends : Bool → SetSlots → SetSlots
if_ends true s = s
if_ends false s = all_set

-- what is set at the end of a part, whether or not that can be reached
abbrev pub at_end : State → SetSlots
at_end a = if_ends a.ends a.set

-- something is read
abbrev pub reads : (SetSlots → Check) → Part
reads check s = state (check s.set s.found) s.set s.ends

-- an absent else does nothing
abbrev pub other_part : Option Part → Part
other_part None s = s
other_part (Some p) s = p s

-- after both branches, each of which begins with what is set before them
abbrev pub joined : Bool → State → State → State
joined ends a b = state b.found (both_set (at_end a) (at_end b)) (ends && (a.ends || b.ends))

abbrev pub branches : Part → Option Part → Part
branches body other s =
    let a = body (state s.found s.set true) in
    joined s.ends a (other_part other (state a.found s.set true))

abbrev pub each : List Part → Part
each parts s = fold (λ s p. p s) s parts

module _ (scope : Scope) where
  -- a variable gets a value
  abbrev pub gets : Ident → ValueTree → Part
  gets x v s = state (value scope s.set v s.found) (with_slot (slot_of scope x.text) s.set) s.ends

  abbrev pub may_get : Ident → Option ValueTree → Part
  may_get x None s = s
  may_get x (Some v) s = gets x v s

  -- a return sets nothing, and its end cannot be reached
  abbrev pub returns : Option ExprTree → Part
  returns e s = state (optional (expression scope s.set) e s.found) s.set false

  abbrev pub kind_part : StatementKind-F Part Part Part → Part
  kind_part (StatementKind-F.Local kind x v) s = may_get x v s
  kind_part (StatementKind-F.Assign x v) s = gets x v s
  kind_part (StatementKind-F.Store x f e) s = reads (λ set. both (variable scope set x) (expression scope set e)) s
  kind_part (StatementKind-F.Call c) s = reads (λ set. all (expression scope set) c.args) s
  kind_part (StatementKind-F.Branch c body other) s = branches body other (reads (λ set. condition scope set c) s)
  kind_part (StatementKind-F.Return e) s = returns e s

  abbrev pub statement : StatementTree → Part
  statement = fold-StatementTree Part Part Part kind_part (λ b. each b.statements) (λ s. s.kind)

  abbrev pub block : BlockTree → Part
  block = fold-BlockTree Part Part Part kind_part (λ b. each b.statements) (λ s. s.kind)

  -- the block of a method, whose parameters are set
  abbrev pub method_block : MethodTree → Check
  method_block m found = (block m.block (state found (params_set (length m.params)) true)).found
