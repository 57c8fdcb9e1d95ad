-- What is made of a block fits, where its types fit and what it uses is there.
use Rattle.std.proofs.Common.{◌≡◌, ℕ, suc, ◌+◌, ◌≤◌, Bool, true, false, ◌&&◌, ◌||◌, List, [], ◌∷◌, ◌++◌, length, map, Option, Some, None, if◌then◌else◌, is_some, refl, sym, ap, ◌∙◌, subst, arith}
use Rattle.std.specs.List.{AllByRecursion, Contains, fold, flat_map, list_all}
use Rattle.hs_tree.specs.declared.ident.Ident.{Ident}
use Rattle.hs_tree.specs.declared.method.TypeTree.{TypeTree}
use Rattle.hs_tree.specs.declared.method.ValueTree.{ValueTree}
use Rattle.hs_tree.specs.declared.method.CondTree.{CondTree}
use Rattle.hs_tree.specs.declared.method.BlockTree.{BlockTree, BlockTree-F, map-BlockTree, roll-BlockTree, ind-BlockTree, fold-roll-BlockTree}
use Rattle.hs_tree.specs.declared.method.StatementTree.{StatementTree, StatementTree-F, map-StatementTree, roll-StatementTree, fold-roll-StatementTree}
use Rattle.hs_tree.specs.declared.method.StatementKind.{StatementKind, fold-StatementKind, map-StatementKind, roll-StatementKind, fold-roll-StatementKind}
use Rattle.hs_tree.specs.declared.method.StatementKind.TheOpen.{StatementKind-F}
use Rattle.hs_core.specs.declared.program.Program.{Program}
use Rattle.hs_norm.specs.declared.resolved.MethodTree.{MethodTree}
use Rattle.hs_norm_sound.specs.Uses.{Use, Name, value_uses, condition_uses, statement_kind_uses, statement_uses, block_uses, optional_uses}
use Rattle.hs_lower_scope.specs.declared.variable.Variable.{Variable}
use Rattle.hs_lower_scope.specs.Scope.{Scope, slot_of, kind_of, type_of, method_named, kind_variables, statement_variables, block_variables}
use Rattle.hs_lower_faults.specs.First.{Check, all, optional}
use Rattle.hs_lower_faults.specs.Types as types
use Rattle.hs_lower_faults.specs.Ends.{kind_ends, statement_ends, block_ends}
use Rattle.hs_lower.specs.declared.made.Made.{Made}
use Rattle.hs_lower.specs.Conditions.{condition}
use Rattle.hs_lower.specs.Code.{made, Part, else_at, follow, then_part, each, variable_value, optional_value, kind_part, statement, block}
use Rattle.hs_lower_sound.specs.Lowerable.{IsThere}
use Rattle.hs_lower_sound.proofs.Passed.{Passes, split_all, passes_more}
use Rattle.hs_lower_sound.proofs.Sums.{slot_fits}
use Rattle.hs_lower_sound.proofs.Conditions.{condition_fits}
use Rattle.hs_lower_sound.proofs.Segments.{SegmentFits, nothing_fits, follow_fits, then_fits, else_fits}
use Rattle.hs_lower_sound.proofs.Values.{Callee, Gives, value_fits, value_ends, call_fits, store_fits, store_ends, give_fits, give_ends}
use Rattle.hs_lower_sound.proofs.Typed.{value_gives, call_stays, store_stays, condition_stays, give_passes}

or_true : (b : Bool) → (b || true) ≡ true
or_true true = refl
or_true false = refl

and_true : (b : Bool) → (b && true) ≡ b
and_true true = refl
and_true false = refl

module _ (program : Program) (scope : Scope) (calls : (name : List ℕ) (m : MethodTree) → method_named scope name ≡ Some m → Callee program scope name m) where
  abbrev gives : Bool
  gives = is_some scope.result

  abbrev count : ℕ
  count = length scope.variables

  abbrev F : Use → Type 0
  F = IsThere scope

  abbrev D : Variable → Type 0
  D = Contains scope.variables

  abbrev Segment : ℕ → ℕ → Made → Type 0
  Segment = SegmentFits scope.defs program gives

  -- at each point the part makes a segment that fits, whose end can be reached or not
  abbrev Fits : Part → Bool → Type 0
  Fits part ends = (p n : ℕ) → count ≤ n → Segment p n (part p n) × ((part p n).ends ≡ ends)

  -- what is said of a part: its uses, the variables that it declares, what is made of it, and whether its end can be reached
  abbrev Said : Type 0
  Said = List Use × (List Variable × (Part × Bool))

  abbrev Holds : Said → Type 0
  Holds b = AllByRecursion F b.0 → AllByRecursion D b.1.0 → Fits b.1.1.0 b.1.1.1

  abbrev Good : Check × Said → Type 0
  Good b = Passes b.0 (Holds b.1)

  abbrev GoodKind : (ℕ → Check) × Said → Type 0
  GoodKind b = (at : ℕ) → Good (b.0 at, b.1)

  -- ---- statements without others in them

  value_holds : (x : Ident) (v : ValueTree) → Gives scope v → F (Name x) → AllByRecursion F (value_uses v) → Fits (λ p n. variable_value scope x v n) true
  value_holds x v g there h = λ p n enough. (
    value_fits program scope calls p n (slot_of scope x.text) v enough (slot_fits scope count (omega arith) x there) h g,
    value_ends program scope calls (slot_of scope x.text) n v,
  )

  local_good : (t : TypeTree) (x : Ident) (v : Option ValueTree) → Passes (optional (types.value scope (kind_of scope x.text)) v)
      (AllByRecursion F (optional_uses value_uses v) → D (record { name = x.text; kind = type_of scope.defs t }) → Fits (λ p n. optional_value scope x v n) true)
  local_good t x None = λ found e. (e, λ h d p n enough. (nothing_fits scope.defs program gives p n, refl))
  local_good t x (Some v) = passes_more (types.value scope (kind_of scope x.text) v) (Gives scope v) _
      (λ g h d. value_holds x v g (record { name = x.text; kind = type_of scope.defs t }, d, refl) h) (value_gives scope (kind_of scope x.text) v)

  -- ---- trees

  abbrev block_check : BlockTree-F (ℕ → Check) Check Check → Check
  block_check b = all (λ s. s) b.statements

  abbrev statement_check : StatementTree-F (ℕ → Check) Check Check → Check
  statement_check s = s.kind s.at

  abbrev block_used : BlockTree-F (List Use) (List Use) (List Use) → List Use
  block_used b = flat_map (λ s. s) b.statements

  abbrev block_declared : BlockTree-F (List Variable) (List Variable) (List Variable) → List Variable
  block_declared b = flat_map (λ xs. xs) b.statements

  abbrev block_made : BlockTree-F Part Part Part → Part
  block_made b = each b.statements

  abbrev block_ending : BlockTree-F Bool Bool Bool → Bool
  block_ending b = list_all (λ s. s) b.statements

  abbrev statement_level : {A : Type 0} → StatementTree-F A A A → A
  statement_level s = s.kind

  abbrev check_of : StatementKind → ℕ → Check
  check_of = fold-StatementKind (ℕ → Check) Check Check (types.statement_by scope) block_check statement_check

  abbrev uses_of : StatementKind → List Use
  uses_of = fold-StatementKind (List Use) (List Use) (List Use) statement_kind_uses block_used statement_level

  abbrev declared_of : StatementKind → List Variable
  declared_of = fold-StatementKind (List Variable) (List Variable) (List Variable) (kind_variables scope.defs) block_declared statement_level

  abbrev made_of : StatementKind → Part
  made_of = fold-StatementKind Part Part Part (kind_part scope) block_made statement_level

  abbrev ends_of : StatementKind → Bool
  ends_of = fold-StatementKind Bool Bool Bool kind_ends block_ending statement_level

  abbrev QK : StatementKind → Type 0
  QK k = GoodKind (check_of k, (uses_of k, (declared_of k, (made_of k, ends_of k))))

  abbrev QB : BlockTree → Type 0
  QB b = Good (types.block scope b, (block_uses b, (block_variables scope.defs b, (block scope b, block_ends b))))

  abbrev QS : StatementTree → Type 0
  QS s = Good (types.statement scope s, (statement_uses s, (statement_variables scope.defs s, (statement scope s, statement_ends s))))

  abbrev K : Type 0
  K = (k : StatementKind) × QK k

  abbrev B : Type 0
  B = (b : BlockTree) × QB b

  abbrev S : Type 0
  S = (s : StatementTree) × QS s

  abbrev bare_kind : StatementKind-F K B S → StatementKind-F StatementKind BlockTree StatementTree
  bare_kind = map-StatementKind K B S StatementKind BlockTree StatementTree (λ e. e.0) (λ e. e.0) (λ e. e.0)

  abbrev kind_all : StatementKind-F StatementKind BlockTree StatementTree → (ℕ → Check) × Said
  kind_all z = (
    types.statement_by scope (map-StatementKind StatementKind BlockTree StatementTree (ℕ → Check) Check Check check_of (types.block scope) (types.statement scope) z),
    (
      statement_kind_uses (map-StatementKind StatementKind BlockTree StatementTree (List Use) (List Use) (List Use) uses_of block_uses statement_uses z),
      (
        kind_variables scope.defs (map-StatementKind StatementKind BlockTree StatementTree (List Variable) (List Variable) (List Variable) declared_of (block_variables scope.defs) (statement_variables scope.defs) z),
        (
          kind_part scope (map-StatementKind StatementKind BlockTree StatementTree Part Part Part made_of (block scope) (statement scope) z),
          kind_ends (map-StatementKind StatementKind BlockTree StatementTree Bool Bool Bool ends_of block_ends statement_ends z),
        ),
      ),
    ),
  )

  branch_good : (c : CondTree) (body : B) (other : Option B) → GoodKind (kind_all (bare_kind (StatementKind-F.Branch c body other)))
  branch_good c body None at found e =
      let after = body.1 (types.condition scope c found) e in
      let before = condition_stays scope c found after.0 in (
        before.0,
        λ h d p n enough.
            let parts = split_all F (condition_uses c ++ block_uses body.0) [] h in
            let own = split_all F (condition_uses c) (block_uses body.0) parts.0 in
            let declared = split_all D (block_variables scope.defs body.0) [] d in
            let a = after.1 own.1 declared.0 (suc p) n enough in (
              then_fits scope.defs program gives p n (condition scope c) (block scope body.0 (suc p) n) (λ k s. condition_fits k scope (omega arith) c own.0) a.0,
              sym (or_true (block_ends body.0)),
            ),
      )
  branch_good c body (Some b) at found e =
      let last = b.1 (types.block scope body.0 (types.condition scope c found)) e in
      let after = body.1 (types.condition scope c found) last.0 in
      let before = condition_stays scope c found after.0 in (
        before.0,
        λ h d p n enough.
            let parts = split_all F (condition_uses c ++ block_uses body.0) (block_uses b.0) h in
            let own = split_all F (condition_uses c) (block_uses body.0) parts.0 in
            let declared = split_all D (block_variables scope.defs body.0) (block_variables scope.defs b.0) d in
            let a = after.1 own.1 declared.0 (suc p) n enough in
            let first = block scope body.0 (suc p) n in
            let more = a.0.slots in
            let second = last.1 parts.1 declared.1 (else_at p first) first.slots (omega arith) in (
              else_fits scope.defs program gives p n (condition scope c) first (block scope b.0 (else_at p first) first.slots) (λ k s. condition_fits k scope (omega arith) c own.0) a.0 second.0,
              λ i. a.1 i || second.1 i,
            ),
      )

  kinds_good : (k : StatementKind-F K B S) → GoodKind (kind_all (bare_kind k))
  kinds_good (StatementKind-F.Local t x v) at found e = let l = local_good t x v found e in (l.0, λ h d. l.1 h.1 d.0)
  kinds_good (StatementKind-F.Assign x v) at found e =
      let l = value_gives scope (kind_of scope x.text) v found e in
      (l.0, λ h d. value_holds x v l.1 h.0 h.1)
  kinds_good (StatementKind-F.Store x f e) at found is = ((store_stays scope x f e found is).0, λ h d p n enough. (store_fits program scope calls p n x f e enough h.0 h.1, store_ends program scope calls n x f e))
  kinds_good (StatementKind-F.Call c) at found e = ((call_stays scope c found e).0, λ h d p n enough. (call_fits program scope calls p n None c enough h (λ m is k s. tt), refl))
  kinds_good (StatementKind-F.Branch c body other) at found e = branch_good c body other at found e
  kinds_good (StatementKind-F.Return o) at found e =
      let l = give_passes scope at scope.result o found e in
      (l.0, λ h d p n enough. (give_fits program scope calls p n o enough h l.1, give_ends program scope calls n o))

  -- ---- statements in a row

  abbrev EachFit : List S → Type 0
  EachFit [] = Unit {0}
  EachFit (s ∷ ss) = Fits (statement scope s.0) (statement_ends s.0) × EachFit ss

  abbrev trees : List S → List StatementTree
  trees ss = map (λ e. e.0) ss

  statements_good : (ss : List S) → Passes (all (λ s. s) (map (types.statement scope) (trees ss)))
      (AllByRecursion F (flat_map (λ s. s) (map statement_uses (trees ss))) → AllByRecursion D (flat_map (λ xs. xs) (map (statement_variables scope.defs) (trees ss))) → EachFit ss)
  statements_good [] found e = (e, λ h d. tt)
  statements_good (s ∷ ss) found e =
      let after = statements_good ss (types.statement scope s.0 found) e in
      let before = s.1 found after.0 in (
        before.0,
        λ h d.
            let used = split_all F (statement_uses s.0) (flat_map (λ s. s) (map statement_uses (trees ss))) h in
            let declared = split_all D (statement_variables scope.defs s.0) (flat_map (λ xs. xs) (map (statement_variables scope.defs) (trees ss))) d in
            (before.1 used.0 declared.0, after.1 used.1 declared.1),
      )

  abbrev made_from : ℕ → Made → List S → Made
  made_from p m ss = fold (then_part p) m (map (statement scope) (trees ss))

  abbrev all_end : List S → Bool
  all_end ss = list_all (λ s. s) (map statement_ends (trees ss))

  -- what is made of a statement after m
  abbrev next : ℕ → Made → S → Made
  next p m s = statement scope s.0 (p + length m.code) m.slots

  row_fits : (p n : ℕ) (ss : List S) (m : Made) → count ≤ n → Segment p n m → EachFit ss → Segment p n (made_from p m ss) × ((made_from p m ss).ends ≡ (m.ends && all_end ss))
  row_fits p n [] m enough h g = (h, sym (and_true m.ends))
  row_fits p n (s ∷ ss) m enough h g = of m.ends refl (λ a k. row_fits p n ss a enough k g.1)
    where
      of : (b : Bool) → m.ends ≡ b → ((a : Made) → Segment p n a → Segment p n (made_from p a ss) × ((made_from p a ss).ends ≡ (a.ends && all_end ss))) →
          Segment p n (made_from p (if b then follow m (next p m s) else m) ss) × ((made_from p (if b then follow m (next p m s) else m) ss).ends ≡ (m.ends && (statement_ends s.0 && all_end ss)))
      of true is later =
          let more = h.slots in
          let a = g.0 (p + length m.code) m.slots (omega arith) in
          let rest = later (follow m (next p m s)) (follow_fits scope.defs program gives p (p + length m.code) n m (next p m s) refl h a.0) in
          (rest.0, rest.1 ∙ ap (λ b. b && all_end ss) a.1 ∙ sym (ap (λ b. b && (statement_ends s.0 && all_end ss)) is))
      of false is later =
          let rest = later m h in
          (rest.0, rest.1 ∙ ap (λ b. b && all_end ss) is ∙ sym (ap (λ b. b && (statement_ends s.0 && all_end ss)) is))

  row_good : (ss : List S) → Good (
    all (λ s. s) (map (types.statement scope) (trees ss)),
    (
      flat_map (λ s. s) (map statement_uses (trees ss)),
      (flat_map (λ xs. xs) (map (statement_variables scope.defs) (trees ss)), (each (map (statement scope) (trees ss)), all_end ss)),
    ),
  )
  row_good ss found e =
      let good = statements_good ss found e in
      (good.0, λ h d p n enough. row_fits p n ss (made [] n true) enough (nothing_fits scope.defs program gives p n) (good.1 h d))

  -- ---- all trees

  all_kinds : (x : StatementKind-F StatementKind BlockTree StatementTree) (y : StatementKind-F K B S) → bare_kind y ≡ x → QK (roll-StatementKind x)
  all_kinds x y is = subst GoodKind (λ i. (
    sym (fold-roll-StatementKind (ℕ → Check) Check Check (types.statement_by scope) block_check statement_check x) i,
    (
      sym (fold-roll-StatementKind (List Use) (List Use) (List Use) statement_kind_uses block_used statement_level x) i,
      (
        sym (fold-roll-StatementKind (List Variable) (List Variable) (List Variable) (kind_variables scope.defs) block_declared statement_level x) i,
        (
          sym (fold-roll-StatementKind Part Part Part (kind_part scope) block_made statement_level x) i,
          sym (fold-roll-StatementKind Bool Bool Bool kind_ends block_ending statement_level x) i,
        ),
      ),
    ),
  ))
      (subst (λ z. GoodKind (kind_all z)) is (kinds_good y))

  all_blocks : (x : BlockTree-F StatementKind BlockTree StatementTree) (y : BlockTree-F K B S) → map-BlockTree K B S StatementKind BlockTree StatementTree (λ e. e.0) (λ e. e.0) (λ e. e.0) y ≡ x → QB (roll-BlockTree x)
  all_blocks x y is = subst Good (λ i. (
    sym (fold-roll-BlockTree (ℕ → Check) Check Check (types.statement_by scope) block_check statement_check x) i,
    (
      sym (fold-roll-BlockTree (List Use) (List Use) (List Use) statement_kind_uses block_used statement_level x) i,
      (
        sym (fold-roll-BlockTree (List Variable) (List Variable) (List Variable) (kind_variables scope.defs) block_declared statement_level x) i,
        (
          sym (fold-roll-BlockTree Part Part Part (kind_part scope) block_made statement_level x) i,
          sym (fold-roll-BlockTree Bool Bool Bool kind_ends block_ending statement_level x) i,
        ),
      ),
    ),
  ))
      (subst (λ z. Good (
        block_check (map-BlockTree StatementKind BlockTree StatementTree (ℕ → Check) Check Check check_of (types.block scope) (types.statement scope) z),
        (
          block_used (map-BlockTree StatementKind BlockTree StatementTree (List Use) (List Use) (List Use) uses_of block_uses statement_uses z),
          (
            block_declared (map-BlockTree StatementKind BlockTree StatementTree (List Variable) (List Variable) (List Variable) declared_of (block_variables scope.defs) (statement_variables scope.defs) z),
            (
              block_made (map-BlockTree StatementKind BlockTree StatementTree Part Part Part made_of (block scope) (statement scope) z),
              block_ending (map-BlockTree StatementKind BlockTree StatementTree Bool Bool Bool ends_of block_ends statement_ends z),
            ),
          ),
        ),
      )) is (row_good y.statements))

  all_statements : (x : StatementTree-F StatementKind BlockTree StatementTree) (y : StatementTree-F K B S) → map-StatementTree K B S StatementKind BlockTree StatementTree (λ e. e.0) (λ e. e.0) (λ e. e.0) y ≡ x → QS (roll-StatementTree x)
  all_statements x y is = subst Good (λ i. (
    sym (fold-roll-StatementTree (ℕ → Check) Check Check (types.statement_by scope) block_check statement_check x) i,
    (
      sym (fold-roll-StatementTree (List Use) (List Use) (List Use) statement_kind_uses block_used statement_level x) i,
      (
        sym (fold-roll-StatementTree (List Variable) (List Variable) (List Variable) (kind_variables scope.defs) block_declared statement_level x) i,
        (
          sym (fold-roll-StatementTree Part Part Part (kind_part scope) block_made statement_level x) i,
          sym (fold-roll-StatementTree Bool Bool Bool kind_ends block_ending statement_level x) i,
        ),
      ),
    ),
  ))
      (subst (λ z. Good (
        statement_check (map-StatementTree StatementKind BlockTree StatementTree (ℕ → Check) Check Check check_of (types.block scope) (types.statement scope) z),
        (
          statement_level (map-StatementTree StatementKind BlockTree StatementTree (List Use) (List Use) (List Use) uses_of block_uses statement_uses z),
          (
            statement_level (map-StatementTree StatementKind BlockTree StatementTree (List Variable) (List Variable) (List Variable) declared_of (block_variables scope.defs) (statement_variables scope.defs) z),
            (
              statement_level (map-StatementTree StatementKind BlockTree StatementTree Part Part Part made_of (block scope) (statement scope) z),
              statement_level (map-StatementTree StatementKind BlockTree StatementTree Bool Bool Bool ends_of block_ends statement_ends z),
            ),
          ),
        ),
      )) is (y.kind.1 y.at))

  pub block_good : (b : BlockTree) → Good (types.block scope b, (block_uses b, (block_variables scope.defs b, (block scope b, block_ends b))))
  block_good = ind-BlockTree QK QB QS all_kinds all_blocks all_statements
