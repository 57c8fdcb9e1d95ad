-- A fault stays while a block is searched for reads of what is not set.
use Rattle.std.proofs.Common.{◌≡◌, List, [], ◌∷◌, map, true, Option, Some, None, length, sym, subst}
use Rattle.hs_tree.specs.declared.ident.Ident.{Ident}
use Rattle.hs_tree.specs.declared.expr.ExprTree.{ExprTree}
use Rattle.hs_tree.specs.declared.method.ValueTree.{ValueTree}
use Rattle.hs_tree.specs.declared.method.ValueTree.TheVariants as value_of
use Rattle.hs_tree.specs.declared.method.CondTree.{CondTree}
use Rattle.hs_tree.specs.declared.method.BlockTree.{BlockTree, BlockTree-F, map-BlockTree, roll-BlockTree, ind-BlockTree, fold-roll-BlockTree}
use Rattle.hs_tree.specs.declared.method.StatementTree.{StatementTree, StatementTree-F, map-StatementTree, roll-StatementTree, fold-roll-StatementTree}
use Rattle.hs_tree.specs.declared.method.StatementKind.{StatementKind, fold-StatementKind, map-StatementKind, roll-StatementKind, fold-roll-StatementKind}
use Rattle.hs_tree.specs.declared.method.StatementKind.TheOpen.{StatementKind-F}
use Rattle.hs_norm.specs.declared.resolved.MethodTree.{MethodTree}
use Rattle.hs_lower_scope.specs.Scope.{Scope, slot_of}
use Rattle.hs_lower_scope.specs.Terms.{parts_of, part_variable}
use Rattle.hs_lower_faults.specs.First.{Check, both, all}
use Rattle.hs_lower_faults.specs.Setting.{SetSlots, State, Part, state, params_set, variable, part, expression, value, test_by, condition, reads, branches, other_part, each, gets, may_get, returns, kind_part, statement, block, method_block}
use Rattle.hs_lower_sound.proofs.Passed.{Stays, set_passes, both_stay, all_stay, optional_stays}
use Rattle.hs_lower_sound.proofs.ConditionChecks.{cond_stays}

module _ (scope : Scope) where
  -- ---- what is read

  variable_stays : (s : SetSlots) (x : Ident) → Stays (variable scope s x)
  variable_stays s x = set_passes (s (slot_of scope x.text)) x.at

  expression_stays : (s : SetSlots) (e : ExprTree) → Stays (expression scope s e)
  expression_stays s e = all_stay (part scope s) (λ p. optional_stays (variable scope s) (variable_stays s) (part_variable p)) (parts_of e.kind)

  value_stays : (s : SetSlots) (v : ValueTree) → Stays (value scope s v)
  value_stays s (value_of.New at x args) = all_stay (expression scope s) (expression_stays s) args
  value_stays s (value_of.Call c) = all_stay (expression scope s) (expression_stays s) c.args
  value_stays s (value_of.Load x f) = variable_stays s x
  value_stays s (value_of.Value e) = expression_stays s e

  condition_stays : (s : SetSlots) (c : CondTree) → Stays (condition scope s c)
  condition_stays s = cond_stays (test_by scope s) (λ t h. h) (λ c h. h) (λ r a b. both_stay (expression scope s a) (expression scope s b) (expression_stays s a) (expression_stays s b))

  -- ---- blocks

  -- no fault after the part, and none before it
  abbrev Keeps : Part → Type 0
  Keeps p = (s : State) → (p s).found ≡ None → s.found ≡ None

  reads_keep : (check : SetSlots → Check) → ((s : SetSlots) → Stays (check s)) → Keeps (reads check)
  reads_keep check h s e = (h s.set s.found e).0

  gets_keep : (x : Ident) (v : ValueTree) → Keeps (gets scope x v)
  gets_keep x v s e = (value_stays s.set v s.found e).0

  may_get_keeps : (x : Ident) (v : Option ValueTree) → Keeps (may_get scope x v)
  may_get_keeps x None s e = e
  may_get_keeps x (Some v) s e = gets_keep x v s e

  returns_keep : (o : Option ExprTree) → Keeps (returns scope o)
  returns_keep o s e = (optional_stays (expression scope s.set) (expression_stays s.set) o s.found e).0

  abbrev KeepsOther : Option Part → Type 0
  KeepsOther o = (s : State) → (other_part o s).found ≡ None → s.found ≡ None

  branches_keep : (body : Part) (other : Option Part) → Keeps body → KeepsOther other → Keeps (branches body other)
  branches_keep body other h k s e = h (state s.found s.set true) (k (state (body (state s.found s.set true)).found s.set true) e)

  abbrev block_level : BlockTree-F Part Part Part → Part
  block_level b = each b.statements

  abbrev statement_level : StatementTree-F Part Part Part → Part
  statement_level s = s.kind

  abbrev kind_made : StatementKind → Part
  kind_made = fold-StatementKind Part Part Part (kind_part scope) block_level statement_level

  abbrev K : Type 0
  K = (k : StatementKind) × Keeps (kind_made k)

  abbrev B : Type 0
  B = (b : BlockTree) × Keeps (block scope b)

  abbrev S : Type 0
  S = (s : StatementTree) × Keeps (statement scope s)

  abbrev bare_kind : StatementKind-F K B S → StatementKind-F StatementKind BlockTree StatementTree
  bare_kind = map-StatementKind K B S StatementKind BlockTree StatementTree (λ e. e.0) (λ e. e.0) (λ e. e.0)

  abbrev kind_of : StatementKind-F StatementKind BlockTree StatementTree → Part
  kind_of z = kind_part scope (map-StatementKind StatementKind BlockTree StatementTree Part Part Part kind_made (block scope) (statement scope) z)

  branch_keeps : (c : CondTree) (body : B) (other : Option B) → Keeps (kind_of (bare_kind (StatementKind-F.Branch c body other)))
  branch_keeps c body None s e = reads_keep (λ set. condition scope set c) (λ set. condition_stays set c) s
      (branches_keep (block scope body.0) None body.1 (λ t f. f) (reads (λ set. condition scope set c) s) e)
  branch_keeps c body (Some b) s e = reads_keep (λ set. condition scope set c) (λ set. condition_stays set c) s
      (branches_keep (block scope body.0) (Some (block scope b.0)) body.1 b.1 (reads (λ set. condition scope set c) s) e)

  kinds_keep : (k : StatementKind-F K B S) → Keeps (kind_of (bare_kind k))
  kinds_keep (StatementKind-F.Local t x v) = may_get_keeps x v
  kinds_keep (StatementKind-F.Assign x v) = gets_keep x v
  kinds_keep (StatementKind-F.Store x f e) = reads_keep (λ set. both (variable scope set x) (expression scope set e)) (λ set. both_stay (variable scope set x) (expression scope set e) (variable_stays set x) (expression_stays set e))
  kinds_keep (StatementKind-F.Call c) = reads_keep (λ set. all (expression scope set) c.args) (λ set. all_stay (expression scope set) (expression_stays set) c.args)
  kinds_keep (StatementKind-F.Branch c body other) = branch_keeps c body other
  kinds_keep (StatementKind-F.Return e) = returns_keep e

  each_keeps : (ss : List S) → Keeps (each (map (statement scope) (map (λ e. e.0) ss)))
  each_keeps [] s e = e
  each_keeps (t ∷ ss) s e = t.1 s (each_keeps ss (statement scope t.0 s) e)

  all_kinds : (x : StatementKind-F StatementKind BlockTree StatementTree) (y : StatementKind-F K B S) → bare_kind y ≡ x → Keeps (kind_made (roll-StatementKind x))
  all_kinds x y is = subst Keeps (sym (fold-roll-StatementKind Part Part Part (kind_part scope) block_level statement_level x)) (subst (λ z. Keeps (kind_of z)) is (kinds_keep y))

  all_blocks : (x : BlockTree-F StatementKind BlockTree StatementTree) (y : BlockTree-F K B S) → map-BlockTree K B S StatementKind BlockTree StatementTree (λ e. e.0) (λ e. e.0) (λ e. e.0) y ≡ x → Keeps (block scope (roll-BlockTree x))
  all_blocks x y is = subst Keeps (sym (fold-roll-BlockTree Part Part Part (kind_part scope) block_level statement_level x))
      (subst (λ z. Keeps (block_level (map-BlockTree StatementKind BlockTree StatementTree Part Part Part kind_made (block scope) (statement scope) z))) is (each_keeps y.statements))

  all_statements : (x : StatementTree-F StatementKind BlockTree StatementTree) (y : StatementTree-F K B S) → map-StatementTree K B S StatementKind BlockTree StatementTree (λ e. e.0) (λ e. e.0) (λ e. e.0) y ≡ x → Keeps (statement scope (roll-StatementTree x))
  all_statements x y is = subst Keeps (sym (fold-roll-StatementTree Part Part Part (kind_part scope) block_level statement_level x))
      (subst (λ z. Keeps (statement_level (map-StatementTree StatementKind BlockTree StatementTree Part Part Part kind_made (block scope) (statement scope) z))) is y.kind.1)

  block_keeps : (b : BlockTree) → Keeps (block scope b)
  block_keeps = ind-BlockTree (λ k. Keeps (kind_made k)) (λ b. Keeps (block scope b)) (λ s. Keeps (statement scope s)) all_kinds all_blocks all_statements

  -- what is read in the block of a method
  pub method_stays : (m : MethodTree) → Stays (method_block scope m)
  method_stays m found e = (block_keeps m.block (state found (params_set (length m.params)) true) e, tt)
