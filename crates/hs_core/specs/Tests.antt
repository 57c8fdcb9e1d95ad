-- The tests that tell whether a program is sound.
use Rattle.std.specs.Prelude.{ℕ, suc, ◌+◌, ◌^◌, Bool, true, false, not, ◌&&◌, ◌||◌, nat_lt, nat_le, ◌==◌, List, [], ◌∷◌, length, Option, Some, None}
use Rattle.std.specs.List.{list_all}
use Rattle.hs_pure.specs.declared.var.Var.{Var}
use Rattle.hs_pure.specs.declared.lin.Lin.{Lin}
use Rattle.hs_pure.specs.declared.pure.Pure.{Pure, fold-Pure}
use Rattle.hs_pure.specs.declared.pure.Pure.TheOpen.{Pure-F}
use Rattle.hs_pure.specs.Stack.{same}
use Rattle.hs_heap.specs.declared.formula.Formula.{Formula}
use Rattle.hs_heap.specs.declared.definitions.NodeDef.{NodeDef}
use Rattle.hs_heap.specs.declared.definitions.Defs.{Defs}
use Rattle.hs_heap.specs.Meaning.{is_in}
use Rattle.hs_heap.specs.Sound.{node_at}
use Rattle.hs_heap.specs.Tests.{number_fits, sum_fits, binder_fits, pure_fits, are_distinct, disjunct_fits, has_fields}
use Rattle.hs_core.specs.declared.scope.Scope.{Scope, fold-Scope}
use Rattle.hs_core.specs.declared.scope.Scope.TheOpen.{Scope-F}
use Rattle.hs_core.specs.declared.instr.Instr.{Instr}
use Rattle.hs_core.specs.declared.instr.Instr.TheVariants.{Assign, New, Get, Set, Branch, Jump, Call, Return}
use Rattle.hs_core.specs.declared.program.Pair.{Pair}
use Rattle.hs_core.specs.declared.program.Method.{Method}
use Rattle.hs_core.specs.declared.program.Program.{Program}
use Rattle.hs_core.specs.Machine.{numbered, method_of}

abbrev pub is_up_to : ℕ → ℕ → Bool
is_up_to n k = nat_le 1 k && nat_le k n

-- whether v is one of the number variables from 1 to n
abbrev pub is_slot : ℕ → Var → Bool
is_slot n v = not v.bag && is_up_to n v.number

-- ---- scopes

abbrev pub in_scope_level : Scope-F (Var → Bool) → Var → Bool
in_scope_level (Scope-F.UpTo n) v = is_slot n v
in_scope_level (Scope-F.With u outer) v = same v u || outer.now v
in_scope_level (Scope-F.WithAll vs outer) v = is_in v vs.now || outer.now v

-- whether a scope has a variable
abbrev pub in_scope : Scope → Var → Bool
in_scope = fold-Scope (Var → Bool) in_scope_level

-- one of the number variables from 1 to n, or listed
abbrev pub is_given : ℕ → List Var → Var → Bool
is_given n vs v = is_in v vs || is_slot n v

-- whether a formula fits under a binder of u
abbrev pub under_fits : (Var → Bool) → ℕ → Var → Pure → (Var → Bool) → Bool
under_fits free next u p scope = binder_fits free next u && pure_fits free next p (λ v. same v u || scope v)

-- ---- terms and conditions

abbrev pub is_simple_level : Pure-F Bool → Bool
is_simple_level (Pure-F.Eq a b) = true
is_simple_level (Pure-F.Lt a b) = true
is_simple_level (Pure-F.Le a b) = true
is_simple_level (Pure-F.Divides d a) = true
is_simple_level (Pure-F.BagEq a b) = false
is_simple_level (Pure-F.Subset a b) = false
is_simple_level (Pure-F.Member a b) = false
is_simple_level (Pure-F.AllOf u b p) = false
is_simple_level (Pure-F.Not p) = p
is_simple_level (Pure-F.And ps) = list_all (λ b. b) ps
is_simple_level (Pure-F.Or ps) = list_all (λ b. b) ps
is_simple_level (Pure-F.Exists u p) = false
is_simple_level (Pure-F.Forall u p) = false

-- whether a formula has no quantifier and no bag literal
abbrev pub is_simple : Pure → Bool
is_simple = fold-Pure Bool is_simple_level

-- nothing is bound, since no number is below 0
abbrev pub condition_fits : ℕ → Pure → Bool
condition_fits n p = is_simple p && pure_fits (is_slot n) 0 p (is_slot n)

-- ---- instructions

abbrev pub goes_on : Method → ℕ → Bool
goes_on m i = nat_lt (suc i) (length m.code)

abbrev pub is_forward : Method → ℕ → ℕ → Bool
is_forward m i target = nat_lt i target && nat_lt target (length m.code)

abbrev pub has_field : Option NodeDef → ℕ → Bool
has_field None field = false
has_field (Some d) field = is_up_to (length d.fields) field

abbrev pub takes_fit : ℕ → Bool → Option ℕ → Bool
takes_fit n gives None = true
takes_fit n gives (Some k) = is_up_to n k && gives

abbrev pub gives_fit : ℕ → Bool → Option ℕ → Bool
gives_fit n gives None = not gives
gives_fit n gives (Some k) = is_up_to n k && gives

-- whether the slot is passed for none of these parameters
abbrev pub are_not : List ℕ → ℕ → List ℕ → Bool
are_not args slot refs = list_all (λ r. not (numbered args r 0 == slot)) refs

abbrev pub are_apart : List ℕ → List ℕ → Bool
are_apart args [] = true
are_apart args (r ∷ refs) = are_not args (numbered args r 0) refs && are_apart args refs

abbrev pub callee_fits : Method → Method → Option ℕ → List ℕ → Bool
callee_fits m callee to args = list_all (is_up_to m.slots) args && ((length args == callee.params) && (takes_fit m.slots callee.result to && are_apart args callee.refs))

abbrev pub call_fits : Program → Method → Option ℕ → ℕ → List ℕ → Bool
call_fits program m to method args = is_up_to (length program.methods) method && callee_fits m (method_of program method) to args

module _ (defs : Defs) (program : Program) (m : Method) where
  abbrev pub instr_fits : ℕ → Instr → Bool
  instr_fits i (Assign to term) = is_up_to m.slots to && (sum_fits term (is_slot m.slots) && goes_on m i)
  instr_fits i (New to kind args) = is_up_to m.slots to && (list_all (is_up_to m.slots) args && (has_fields (node_at defs kind) (length args) && goes_on m i))
  instr_fits i (Get to at kind field) = is_up_to m.slots to && (is_up_to m.slots at && (has_field (node_at defs kind) field && goes_on m i))
  instr_fits i (Set at kind field from) = is_up_to m.slots at && (is_up_to m.slots from && (has_field (node_at defs kind) field && goes_on m i))
  instr_fits i (Branch condition other) = condition_fits m.slots condition && (goes_on m i && is_forward m i other)
  instr_fits i (Jump target) = is_forward m i target
  instr_fits i (Call to method args) = call_fits program m to method args && goes_on m i
  instr_fits i (Return from) = gives_fit m.slots m.result from

  -- the instructions from the point i on
  abbrev pub code_fits : ℕ → List Instr → Bool
  code_fits i [] = true
  code_fits i (instr ∷ rest) = instr_fits i instr && code_fits (suc i) rest

-- ---- pairs

-- the last number that belongs to a parameter, the result or the last value of a reference parameter
abbrev pub last_reserved : Method → ℕ
last_reserved m = m.params + suc (length m.refs)

abbrev pub are_new : ℕ → ℕ → List Var → Bool
are_new next last vs = list_all (λ v. number_fits next v && not (is_slot last v)) vs

abbrev pub head_fits : ℕ → Pair → Bool
head_fits last p = nat_le p.next (2 ^ 16) && (nat_lt last p.next && (are_distinct p.logic && are_new p.next last p.logic))

abbrev pub formula_fits : Defs → (Var → Bool) → ℕ → Formula → Bool
formula_fits defs free next f = nat_le 1 (length f.cases) && list_all (disjunct_fits defs free next) f.cases

abbrev pub variant_fits : Option Lin → (Var → Bool) → Bool
variant_fits None scope = true
variant_fits (Some term) scope = sum_fits term scope

abbrev pub parts_fit : Defs → Pair → (Var → Bool) → (Var → Bool) → Bool
parts_fit defs p before after = formula_fits defs before p.next p.pre && (formula_fits defs after p.next p.pre
    && (formula_fits defs after p.next p.post && variant_fits p.variant before))

abbrev pub pair_fits : Defs → Method → Pair → Bool
pair_fits defs m p = head_fits (last_reserved m) p && parts_fit defs p (is_given m.params p.logic) (is_given (last_reserved m) p.logic)

-- ---- methods

-- whether the numbers rise from above low to n
abbrev pub are_rising : ℕ → ℕ → List ℕ → Bool
are_rising n low [] = true
are_rising n low (k ∷ ks) = nat_lt low k && (nat_le k n && are_rising n k ks)

abbrev pub method_fits : Defs → Program → Method → Bool
method_fits defs program m = nat_le m.params m.slots && (are_rising m.params 0 m.refs && (nat_lt 0 (length m.code)
    && (code_fits defs program m 0 m.code && list_all (pair_fits defs m) m.pairs)))

abbrev pub program_fits : Defs → Program → Bool
program_fits defs program = list_all (method_fits defs program) program.methods
