-- Each block reads what is set.
use Rattle.std.proofs.Common.{◌≡◌, ℕ, Some, None, sym, subst}
use Rattle.hs_tree.specs.declared.method.BlockTree.{BlockTree, BlockTree-F, map-BlockTree, roll-BlockTree, ind-BlockTree, fold-roll-BlockTree}
use Rattle.hs_tree.specs.declared.method.StatementTree.{StatementTree, StatementTree-F, map-StatementTree, roll-StatementTree, fold-roll-StatementTree}
use Rattle.hs_tree.specs.declared.method.StatementKind.{StatementKind, fold-StatementKind, map-StatementKind, roll-StatementKind, fold-roll-StatementKind}
use Rattle.hs_tree.specs.declared.method.StatementKind.TheOpen.{StatementKind-F}
use Rattle.hs_lower_scope.specs.Scope.{Scope}
use Rattle.hs_lower_faults.specs.First.{Check, all}
use Rattle.hs_lower_faults.specs.Setting as setting
use Rattle.hs_lower_faults.specs.Types as types
use Rattle.hs_lower.specs.Code.{Part}
use Rattle.hs_lower.specs.Code as lower
use Rattle.hs_lower_set.proofs.Parts.{Good, each_good}
use Rattle.hs_lower_set.proofs.Statements.{local_good, gets_good, store_good, call_good, return_good, if_good, if_else_good}

module _ (scope : Scope) where
  -- ---- one level of a tree, for the code, for what is set and for types

  abbrev code_block : BlockTree-F Part Part Part → Part
  code_block b = lower.each b.statements

  abbrev set_block : BlockTree-F setting.Part setting.Part setting.Part → setting.Part
  set_block b = setting.each b.statements

  abbrev type_block : BlockTree-F (ℕ → Check) Check Check → Check
  type_block b = all (λ s. s) b.statements

  abbrev code_statement : StatementTree-F Part Part Part → Part
  code_statement s = s.kind

  abbrev set_statement : StatementTree-F setting.Part setting.Part setting.Part → setting.Part
  set_statement s = s.kind

  abbrev type_statement : StatementTree-F (ℕ → Check) Check Check → Check
  type_statement s = s.kind s.at

  abbrev code_kind : StatementKind → Part
  code_kind = fold-StatementKind Part Part Part (lower.kind_part scope) code_block code_statement

  abbrev set_kind : StatementKind → setting.Part
  set_kind = fold-StatementKind setting.Part setting.Part setting.Part (setting.kind_part scope) set_block set_statement

  abbrev type_kind : StatementKind → ℕ → Check
  type_kind = fold-StatementKind (ℕ → Check) Check Check (types.statement_by scope) type_block type_statement

  -- ---- what is shown of each

  abbrev KindFits : Part × (setting.Part × (ℕ → Check)) → Type 0
  KindFits z = (at : ℕ) → Good z.0 z.1.0 (z.1.1 at)

  abbrev TreeFits : Part × (setting.Part × Check) → Type 0
  TreeFits z = Good z.0 z.1.0 z.1.1

  abbrev PK : StatementKind → Type 0
  PK k = KindFits (code_kind k, (set_kind k, type_kind k))

  abbrev PB : BlockTree → Type 0
  PB b = TreeFits (lower.block scope b, (setting.block scope b, types.block scope b))

  abbrev PS : StatementTree → Type 0
  PS s = TreeFits (lower.statement scope s, (setting.statement scope s, types.statement scope s))

  abbrev L : Type 0
  L = (k : StatementKind) × PK k

  abbrev B : Type 0
  B = (b : BlockTree) × PB b

  abbrev S : Type 0
  S = (s : StatementTree) × PS s

  abbrev bare_kind : StatementKind-F L B S → StatementKind-F StatementKind BlockTree StatementTree
  bare_kind k = map-StatementKind L B S StatementKind BlockTree StatementTree (λ e. e.0) (λ e. e.0) (λ e. e.0) k

  abbrev kind_all : StatementKind-F StatementKind BlockTree StatementTree → Part × (setting.Part × (ℕ → Check))
  kind_all z = (
    lower.kind_part scope (map-StatementKind StatementKind BlockTree StatementTree Part Part Part code_kind (lower.block scope) (lower.statement scope) z),
    (
      setting.kind_part scope (map-StatementKind StatementKind BlockTree StatementTree setting.Part setting.Part setting.Part set_kind (setting.block scope) (setting.statement scope) z),
      types.statement_by scope (map-StatementKind StatementKind BlockTree StatementTree (ℕ → Check) Check Check type_kind (types.block scope) (types.statement scope) z),
    ),
  )

  kind_good : (k : StatementKind-F L B S) → KindFits (kind_all (bare_kind k))
  kind_good (StatementKind-F.Local t x None) = λ at. local_good scope x
  kind_good (StatementKind-F.Local t x (Some v)) = λ at. gets_good scope x v
  kind_good (StatementKind-F.Assign x v) = λ at. gets_good scope x v
  kind_good (StatementKind-F.Store x f e) = λ at. store_good scope x f e
  kind_good (StatementKind-F.Call c) = λ at. call_good scope c
  kind_good (StatementKind-F.Branch c body None) = λ at. if_good scope c (lower.block scope body.0) (setting.block scope body.0) (types.block scope body.0) body.1
  kind_good (StatementKind-F.Branch c body (Some other)) = λ at.
      if_else_good scope c (lower.block scope body.0) (setting.block scope body.0) (types.block scope body.0) body.1 (lower.block scope other.0) (setting.block scope other.0) (types.block scope other.0) other.1
  kind_good (StatementKind-F.Return e) = λ at. return_good scope at e

  all_kinds : (x : StatementKind-F StatementKind BlockTree StatementTree) (y : StatementKind-F L B S) → bare_kind y ≡ x → PK (roll-StatementKind x)
  all_kinds x y is = subst KindFits (λ i. (
    sym (fold-roll-StatementKind Part Part Part (lower.kind_part scope) code_block code_statement x) i,
    (
      sym (fold-roll-StatementKind setting.Part setting.Part setting.Part (setting.kind_part scope) set_block set_statement x) i,
      sym (fold-roll-StatementKind (ℕ → Check) Check Check (types.statement_by scope) type_block type_statement x) i,
    ),
  )) (subst (λ z. KindFits (kind_all z)) is (kind_good y))

  all_blocks : (x : BlockTree-F StatementKind BlockTree StatementTree) (y : BlockTree-F L B S) → map-BlockTree L B S StatementKind BlockTree StatementTree (λ e. e.0) (λ e. e.0) (λ e. e.0) y ≡ x → PB (roll-BlockTree x)
  all_blocks x y is = subst TreeFits (λ i. (
    sym (fold-roll-BlockTree Part Part Part (lower.kind_part scope) code_block code_statement x) i,
    (
      sym (fold-roll-BlockTree setting.Part setting.Part setting.Part (setting.kind_part scope) set_block set_statement x) i,
      sym (fold-roll-BlockTree (ℕ → Check) Check Check (types.statement_by scope) type_block type_statement x) i,
    ),
  )) (subst (λ z. TreeFits (
    code_block (map-BlockTree StatementKind BlockTree StatementTree Part Part Part code_kind (lower.block scope) (lower.statement scope) z),
    (
      set_block (map-BlockTree StatementKind BlockTree StatementTree setting.Part setting.Part setting.Part set_kind (setting.block scope) (setting.statement scope) z),
      type_block (map-BlockTree StatementKind BlockTree StatementTree (ℕ → Check) Check Check type_kind (types.block scope) (types.statement scope) z),
    ),
  )) is (each_good {Y = S} (λ e. e.0) (lower.statement scope) (setting.statement scope) (types.statement scope) (λ e. e.1) y.statements))

  all_statements : (x : StatementTree-F StatementKind BlockTree StatementTree) (y : StatementTree-F L B S) → map-StatementTree L B S StatementKind BlockTree StatementTree (λ e. e.0) (λ e. e.0) (λ e. e.0) y ≡ x → PS (roll-StatementTree x)
  all_statements x y is = subst TreeFits (λ i. (
    sym (fold-roll-StatementTree Part Part Part (lower.kind_part scope) code_block code_statement x) i,
    (
      sym (fold-roll-StatementTree setting.Part setting.Part setting.Part (setting.kind_part scope) set_block set_statement x) i,
      sym (fold-roll-StatementTree (ℕ → Check) Check Check (types.statement_by scope) type_block type_statement x) i,
    ),
  )) (subst (λ z. TreeFits (
    code_statement (map-StatementTree StatementKind BlockTree StatementTree Part Part Part code_kind (lower.block scope) (lower.statement scope) z),
    (
      set_statement (map-StatementTree StatementKind BlockTree StatementTree setting.Part setting.Part setting.Part set_kind (setting.block scope) (setting.statement scope) z),
      type_statement (map-StatementTree StatementKind BlockTree StatementTree (ℕ → Check) Check Check type_kind (types.block scope) (types.statement scope) z),
    ),
  )) is (y.kind.1 y.at))

  pub block_good : (b : BlockTree) → Good (lower.block scope b) (setting.block scope b) (types.block scope b)
  block_good = ind-BlockTree PK PB PS all_kinds all_blocks all_statements
