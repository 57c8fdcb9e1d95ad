-- What is made of a part of a block uses no fewer slots than before.
use Rattle.std.proofs.Common.{◌≡◌, ℕ, suc, ◌+◌, ◌≤◌, Bool, true, false, List, [], ◌∷◌, length, map, Option, Some, None, if◌then◌else◌, sym, subst, arith, le_refl}
use Rattle.std.specs.List.{fold}
use Rattle.hs_tree.specs.declared.ident.Ident.{Ident}
use Rattle.hs_tree.specs.declared.expr.ExprTree.{ExprTree}
use Rattle.hs_tree.specs.declared.method.ValueTree.{ValueTree}
use Rattle.hs_tree.specs.declared.method.ValueTree.TheVariants as value_of
use Rattle.hs_tree.specs.declared.method.BlockTree.{BlockTree, BlockTree-F, map-BlockTree, roll-BlockTree, ind-BlockTree, fold-roll-BlockTree}
use Rattle.hs_tree.specs.declared.method.StatementTree.{StatementTree, StatementTree-F, map-StatementTree, roll-StatementTree, ind-StatementTree, fold-roll-StatementTree}
use Rattle.hs_tree.specs.declared.method.StatementKind.{StatementKind, fold-StatementKind, map-StatementKind, roll-StatementKind, fold-roll-StatementKind}
use Rattle.hs_tree.specs.declared.method.StatementKind.TheOpen.{StatementKind-F}
use Rattle.hs_lower_scope.specs.declared.variable.Field.{Field}
use Rattle.hs_lower_scope.specs.Scope.{Scope, slot_of}
use Rattle.hs_lower_scope.specs.Terms.{bare}
use Rattle.hs_lower.specs.declared.made.Made.{Made}
use Rattle.hs_lower.specs.declared.made.PlacedAll.{PlacedAll}
use Rattle.hs_lower.specs.Code.{made, Part, else_at, follow, then_part, each, load_by, store_by, placed_by, placed, next_placed, field_found, value, optional_value, store, give, kind_part, statement, block}

-- no fewer slots than before are used after the part
abbrev pub Grows : Part → Type 0
Grows part = (p n : ℕ) → n ≤ (part p n).slots

module _ (scope : Scope) where
  pub placed_grows : (e : ExprTree) (n : ℕ) → n ≤ (placed scope e n).slots
  placed_grows e n = of (bare e)
    where
      of : (o : Option Ident) → n ≤ (placed_by scope e n o).slots
      of None = omega arith
      of (Some x) = le_refl n

  pub args_grow : (es : List ExprTree) (all : PlacedAll) → all.slots ≤ (fold (next_placed scope) all es).slots
  args_grow [] all = le_refl all.slots
  args_grow (e ∷ es) all = let a = placed_grows e all.slots in let b = args_grow es (next_placed scope all e) in omega arith

  value_grows : (to n : ℕ) (v : ValueTree) → n ≤ (value scope to v n).slots
  value_grows to n (value_of.New at x args) = args_grow args (record { code = []; slots = n; args = [] })
  value_grows to n (value_of.Call c) = args_grow c.args (record { code = []; slots = n; args = [] })
  value_grows to n (value_of.Load x f) = of (field_found scope x f)
    where
      of : (o : Option Field) → n ≤ (load_by to (slot_of scope x.text) n o).slots
      of None = le_refl n
      of (Some g) = le_refl n
  value_grows to n (value_of.Value e) = le_refl n

  optional_grows : (x : Ident) (v : Option ValueTree) (n : ℕ) → n ≤ (optional_value scope x v n).slots
  optional_grows x None n = le_refl n
  optional_grows x (Some v) n = value_grows (slot_of scope x.text) n v

  store_grows : (x f : Ident) (e : ExprTree) (n : ℕ) → n ≤ (store scope x f e n).slots
  store_grows x f e n = of (field_found scope x f)
    where
      of : (o : Option Field) → n ≤ (store_by (slot_of scope x.text) (placed scope e n) n o).slots
      of None = le_refl n
      of (Some g) = placed_grows e n

  give_grows : (e : Option ExprTree) (n : ℕ) → n ≤ (give scope e n).slots
  give_grows None n = le_refl n
  give_grows (Some e) n = placed_grows e n

  -- ---- trees

  abbrev block_made : BlockTree-F Part Part Part → Part
  block_made b = each b.statements

  abbrev statement_level : {A : Type 0} → StatementTree-F A A A → A
  statement_level s = s.kind

  abbrev made_of : StatementKind → Part
  made_of = fold-StatementKind Part Part Part (kind_part scope) block_made statement_level

  abbrev K : Type 0
  K = (k : StatementKind) × Grows (made_of k)

  abbrev B : Type 0
  B = (b : BlockTree) × Grows (block scope b)

  abbrev S : Type 0
  S = (s : StatementTree) × Grows (statement scope s)

  abbrev bare_kind : StatementKind-F K B S → StatementKind-F StatementKind BlockTree StatementTree
  bare_kind = map-StatementKind K B S StatementKind BlockTree StatementTree (λ e. e.0) (λ e. e.0) (λ e. e.0)

  abbrev kind_all : StatementKind-F StatementKind BlockTree StatementTree → Part
  kind_all z = kind_part scope (map-StatementKind StatementKind BlockTree StatementTree Part Part Part made_of (block scope) (statement scope) z)

  kinds_grow : (k : StatementKind-F K B S) → Grows (kind_all (bare_kind k))
  kinds_grow (StatementKind-F.Local t x v) p n = optional_grows x v n
  kinds_grow (StatementKind-F.Assign x v) p n = value_grows (slot_of scope x.text) n v
  kinds_grow (StatementKind-F.Store x f e) p n = store_grows x f e n
  kinds_grow (StatementKind-F.Call c) p n = args_grow c.args (record { code = []; slots = n; args = [] })
  kinds_grow (StatementKind-F.Branch c body None) p n = body.1 (suc p) n
  kinds_grow (StatementKind-F.Branch c body (Some b)) p n =
      let first = block scope body.0 (suc p) n in
      let a = body.1 (suc p) n in
      let d = b.1 (else_at p first) first.slots in
      omega arith
  kinds_grow (StatementKind-F.Return o) p n = give_grows o n

  row_grows : (p : ℕ) (ss : List S) (d : Made) → d.slots ≤ (fold (then_part p) d (map (statement scope) (map (λ e. e.0) ss))).slots
  row_grows p [] d = le_refl d.slots
  row_grows p (s ∷ ss) d = of d.ends (λ a. row_grows p ss a)
    where
      of : (b : Bool) → ((a : Made) → a.slots ≤ (fold (then_part p) a (map (statement scope) (map (λ e. e.0) ss))).slots) →
          d.slots ≤ (fold (then_part p) (if b then follow d (statement scope s.0 (p + length d.code) d.slots) else d) (map (statement scope) (map (λ e. e.0) ss))).slots
      of true later =
          let a = s.1 (p + length d.code) d.slots in
          let l = later (follow d (statement scope s.0 (p + length d.code) d.slots)) in
          omega arith
      of false later = later d

  all_kinds : (x : StatementKind-F StatementKind BlockTree StatementTree) (y : StatementKind-F K B S) → bare_kind y ≡ x → Grows (made_of (roll-StatementKind x))
  all_kinds x y is = subst Grows (sym (fold-roll-StatementKind Part Part Part (kind_part scope) block_made statement_level x)) (subst (λ z. Grows (kind_all z)) is (kinds_grow y))

  all_blocks : (x : BlockTree-F StatementKind BlockTree StatementTree) (y : BlockTree-F K B S) → map-BlockTree K B S StatementKind BlockTree StatementTree (λ e. e.0) (λ e. e.0) (λ e. e.0) y ≡ x → Grows (block scope (roll-BlockTree x))
  all_blocks x y is = subst Grows (sym (fold-roll-BlockTree Part Part Part (kind_part scope) block_made statement_level x))
      (subst (λ z. Grows (block_made (map-BlockTree StatementKind BlockTree StatementTree Part Part Part made_of (block scope) (statement scope) z))) is (λ p n. row_grows p y.statements (made [] n true)))

  all_statements : (x : StatementTree-F StatementKind BlockTree StatementTree) (y : StatementTree-F K B S) → map-StatementTree K B S StatementKind BlockTree StatementTree (λ e. e.0) (λ e. e.0) (λ e. e.0) y ≡ x →
      Grows (statement scope (roll-StatementTree x))
  all_statements x y is = subst Grows (sym (fold-roll-StatementTree Part Part Part (kind_part scope) block_made statement_level x))
      (subst (λ z. Grows (statement_level (map-StatementTree StatementKind BlockTree StatementTree Part Part Part made_of (block scope) (statement scope) z))) is y.kind.1)

  pub block_grows : (b : BlockTree) → Grows (block scope b)
  block_grows = ind-BlockTree (λ k. Grows (made_of k)) (λ b. Grows (block scope b)) (λ s. Grows (statement scope s)) all_kinds all_blocks all_statements

  pub statement_grows : (s : StatementTree) → Grows (statement scope s)
  statement_grows = ind-StatementTree (λ k. Grows (made_of k)) (λ b. Grows (block scope b)) (λ s. Grows (statement scope s)) all_kinds all_blocks all_statements
