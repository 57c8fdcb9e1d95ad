-- What a block comes to, the code of its method comes to.
use Rattle.std.proofs.Common.{◌≡◌, ℕ, suc, ◌+◌, ◌-◌, ℤ, true, false, not, ◌&&◌, List, [], ◌∷◌, length, map, Option, Some, None, slice_get, slice_set, is_some, refl, sym, ap, ◌∙◌, subst, arith, le_refl}
use Rattle.std.specs.List.{flat_map}
use Rattle.std.proofs.lemmas.List.Elements.{recursion_from_All}
use Rattle.hs_tree.specs.declared.ident.Ident.{Ident}
use Rattle.hs_tree.specs.declared.expr.ExprTree.{ExprTree}
use Rattle.hs_tree.specs.declared.method.CondTree.{CondTree}
use Rattle.hs_tree.specs.declared.method.TypeTree.{TypeTree}
use Rattle.hs_tree.specs.declared.method.CallTree.{CallTree}
use Rattle.hs_tree.specs.declared.method.ValueTree.{ValueTree}
use Rattle.hs_tree.specs.declared.method.BlockTree.{BlockTree, BlockTree-F, roll-BlockTree}
use Rattle.hs_tree.specs.declared.method.StatementTree.{StatementTree, StatementTree-F}
use Rattle.hs_tree.specs.declared.method.StatementKind.{StatementKind, fold-StatementKind}
use Rattle.hs_tree.specs.declared.method.StatementKind.TheVariants as kind
use Rattle.hs_tree.specs.declared.method.StatementKind.TheOpen.{StatementKind-F}
use Rattle.hs_heap.specs.Heap.{Heap, put_node}
use Rattle.hs_norm.specs.declared.resolved.MethodTree.{MethodTree}
use Rattle.hs_norm.specs.declared.resolved.Resolved.{Resolved}
use Rattle.hs_norm_sound.specs.Uses.{Use, statement_kind_uses, statement_uses, block_uses, value_uses}
use Rattle.hs_norm_sound.proofs.Found.{get_all}
use Rattle.hs_core.specs.declared.instr.Instr.{Instr}
use Rattle.hs_core.specs.declared.instr.Instr.TheVariants.{Return}
use Rattle.hs_core.specs.declared.program.Method.{Method}
use Rattle.hs_core.specs.declared.program.Program.{Program}
use Rattle.hs_core.specs.Machine as machine
use Rattle.hs_core.specs.Machine.{Place, Frame, Slots, StepsFrom, TakesResult, numbered, updated, called}
use Rattle.hs_lower_scope.specs.Scope.{Scope, scope_of, slot_of}
use Rattle.hs_lower.specs.declared.made.Made.{Made}
use Rattle.hs_lower.specs.Code as code
use Rattle.hs_lower.specs.Code.{Part, each, kind_part, block}
use Rattle.hs_lower.specs.Lowering.{last_return, code_of, program_of}
use Rattle.hs_lower_sound.specs.Lowerable.{IsThere, MethodIsLowerable, IsLowerable}
use Rattle.hs_lower_meaning.specs.Values as values
use Rattle.hs_lower_meaning.specs.Values.{Values, all_values}
use Rattle.hs_lower_meaning.specs.Blocks as blocks
use Rattle.hs_lower_meaning.specs.Blocks.{Outcome, Goes, Gives, Fails, Stops, Sets, Does, DoesAll, DoesBlock, Runs, first_values}
use Rattle.hs_lower_meaning.proofs.Views as views
use Rattle.hs_lower_meaning.proofs.Growth.{block_grows}
use Rattle.hs_lower_meaning.proofs.Steps.{frame, Stands, stands_first, stands_after}
use Rattle.hs_lower_meaning.proofs.Placing.{Agree, agree_more}
use Rattle.hs_lower_meaning.proofs.Reached.{IsMethod, method_there, Reached, Simulated, called_of}
use Rattle.hs_lower_meaning.proofs.Statements as statements
use Rattle.hs_lower_meaning.proofs.Branching as branching
use Rattle.hs_lower_meaning.proofs.Branching.{Row}

module _ (P : Place) (r : Resolved) (ok : IsLowerable r) where
  abbrev program : Program
  program = program_of r

  -- ---- the code of a method

  -- what stands from a point on
  stands_all : (k p : ℕ) (xs : List Instr) → ((i : ℕ) → slice_get (machine.method_of program k).code (p + i) ≡ slice_get xs i) → Stands P program k p xs
  stands_all k p [] h = tt
  stands_all k p (x ∷ xs) h =
      let e : p + 0 ≡ p = omega arith in (
        subst (λ j. slice_get (machine.method_of program k).code j ≡ Some x) e (h 0),
        stands_all k (suc p) xs (λ i. subst (λ j. slice_get (machine.method_of program k).code j ≡ slice_get xs i) (one_more p i) (h (suc i))),
      )
    where
      one_more : (p i : ℕ) → p + suc i ≡ suc p + i
      one_more p i = omega arith

  whole_stands : (k : ℕ) (m : MethodTree) → IsMethod r k m → Stands P program k 0 (code_of (scope_of r m) m).code
  whole_stands k m is = stands_all k 0 (code_of (scope_of r m) m).code (λ i. ap (λ j. slice_get (machine.method_of program k).code j) (none i) ∙ ap (λ (q : Method). slice_get q.code i) (method_there P r k m is))
    where
      none : (i : ℕ) → 0 + i ≡ i
      none i = omega arith

  abbrev body : MethodTree → Made
  body m = block (scope_of r m) m.block 0 (length (scope_of r m).variables)

  abbrev ending : MethodTree → List Instr
  ending m = last_return ((body m).ends && not (is_some m.result))

  body_runs : (k : ℕ) (m : MethodTree) (args : List ℤ) (fs : List Frame) (h : Heap) (o : Outcome) → IsMethod r k m → Simulated P r k m (block (scope_of r m) m.block) (block_uses m.block) (first_values args) h o →
      Reached P r k m (called k args ∷ fs) fs h (0 + length (body m).code) (body m).ends o
  body_runs k m args fs h o is good =
      let fits = get_all (MethodIsLowerable r) r.methods is.place m is.got (recursion_from_All (MethodIsLowerable r) r.methods ok.methods) in
      good (recursion_from_All (IsThere (scope_of r m)) (block_uses m.block) fits.uses) 0 (length (scope_of r m).variables) (first_values args) fs (le_refl (length (scope_of r m).variables)) (λ j le. refl)
      (stands_first P program k 0 (body m).code (ending m) (whole_stands k m is))

  runs_stopped : (m : MethodTree) (args : List ℤ) (h : Heap) (o : Outcome) → ((k : ℕ) → Simulated P r k m (block (scope_of r m) m.block) (block_uses m.block) (first_values args) h o) → statements.Runs_to P r 0 m m args h o
  runs_stopped m args h o good j is fs = called_of P r j m (called j args ∷ fs) fs h (0 + length (body m).code) (body m).ends o (body_runs j m args fs h o is (good j))

  runs_ended : (m : MethodTree) (args : List ℤ) (w : Values) (h l : Heap) → ((k : ℕ) → Simulated P r k m (block (scope_of r m) m.block) (block_uses m.block) (first_values args) h (Goes w l)) → m.result ≡ None →
      statements.Runs_to P r 0 m m args h (Gives None l)
  runs_ended m args w h l good gives j is fs =
      let ran = body_runs j m args fs h (Goes w l) is (good j) in
      let at = stands_after P program j 0 (body m).code (ending m) (whole_stands j m is) in
      let last : ending m ≡ Return None ∷ [] = (λ i. last_return (ran.3 i && not (is_some (gives i)))) in
      let here = subst (λ xs. Stands P program j (0 + length (body m).code) xs) last at in
      (frame j (0 + length (body m).code) ran.0, ran.1, (None, here.0, refl, refl))

  -- ---- results of calls

  takes_result : (n to : ℕ) (v : ℤ) (w s : ℕ → ℤ) → Agree n w s → (t : Slots) × TakesResult (Some to) (Some v) s t × Agree n (updated w to v) t
  takes_result n to v w s a = (updated s to v, refl, agree_more n w s to v v a refl)

  takes_none : (n : ℕ) (v : Option ℤ) (w s : ℕ → ℤ) → Agree n w s → (t : Slots) × TakesResult None v s t × Agree n w t
  takes_none n v w s a = (s, refl, a)

  -- ---- statements by their trees

  abbrev block_made : BlockTree-F Part Part Part → Part
  block_made b = each b.statements

  abbrev block_used : BlockTree-F (List Use) (List Use) (List Use) → List Use
  block_used b = flat_map (λ s. s) b.statements

  abbrev level : {A : Type 0} → StatementTree-F A A A → A
  level s = s.kind

  abbrev made_of : MethodTree → StatementKind → Part
  made_of m = fold-StatementKind Part Part Part (kind_part (scope_of r m)) block_made level

  abbrev uses_of : StatementKind → List Use
  uses_of = fold-StatementKind (List Use) (List Use) (List Use) statement_kind_uses block_used level

  as_made : (k : ℕ) (m : MethodTree) (part part' : Part) (uses uses' : List Use) (w : Values) (h : Heap) (o : Outcome) → part' ≡ part → uses' ≡ uses → Simulated P r k m part uses w h o → Simulated P r k m part' uses' w h o
  as_made k m part part' uses uses' w h o e f good = subst (λ (z : Part × List Use). Simulated P r k m z.0 z.1 w h o) (λ i. (sym e i, sym f i)) good

  module _ (m : MethodTree) where
    abbrev scope : Scope
    scope = scope_of r m

    abbrev Does_so : StatementKind → Values → Heap → Outcome → Type 0
    Does_so s w h o = (k : ℕ) → Simulated P r k m (made_of m s) (uses_of s) w h o

    abbrev Sets_so : ℕ → ValueTree → Values → Heap → Outcome → Type 0
    Sets_so to v w h o = (k : ℕ) → Simulated P r k m (λ p n. code.value scope to v n) (value_uses v) w h o

    abbrev Does_block : BlockTree → Values → Heap → Outcome → Type 0
    Does_block b w h o = (k : ℕ) → Simulated P r k m (block scope b) (block_uses b) w h o

    does_declares : (t : TypeTree) (x : Ident) (w : Values) (h : Heap) → Does_so (kind.Local t x None) w h (Goes w h)
    does_declares t x w h k = as_made k m (λ p n. code.made [] n true) (made_of m (kind.Local t x None)) (statement_kind_uses (StatementKind-F.Local t x None)) (uses_of (kind.Local t x None)) w h (Goes w h)
        (views.fold-Local (kind_part scope) block_made level t x None) (views.fold-Local statement_kind_uses block_used level t x None) (λ used. statements.nothing P r k m w h tt)

    does_begins : (t : TypeTree) (x : Ident) (v : ValueTree) (w : Values) (h : Heap) (o : Outcome) → Sets_so (slot_of scope x.text) v w h o → Does_so (kind.Local t x (Some v)) w h o
    does_begins t x v w h o good k = as_made k m (λ p n. code.value scope (slot_of scope x.text) v n) (made_of m (kind.Local t x (Some v))) (statement_kind_uses (StatementKind-F.Local t x (Some v))) (uses_of (kind.Local t x (Some v))) w h o
        (views.fold-Local (kind_part scope) block_made level t x (Some v)) (views.fold-Local statement_kind_uses block_used level t x (Some v)) (λ used. good k used.1)

    does_assigns : (x : Ident) (v : ValueTree) (w : Values) (h : Heap) (o : Outcome) → Sets_so (slot_of scope x.text) v w h o → Does_so (kind.Assign x v) w h o
    does_assigns x v w h o good k = as_made k m (λ p n. code.value scope (slot_of scope x.text) v n) (made_of m (kind.Assign x v)) (statement_kind_uses (StatementKind-F.Assign x v)) (uses_of (kind.Assign x v)) w h o
        (views.fold-Assign (kind_part scope) block_made level x v) (views.fold-Assign statement_kind_uses block_used level x v) (λ used. good k used.1)

    does_store : (x f : Ident) (e : ExprTree) (w : Values) (h : Heap) (o : Outcome) → ((k : ℕ) → Simulated P r k m (λ p n. code.store scope x f e n) (statement_kind_uses (StatementKind-F.Store x f e)) w h o) →
        Does_so (kind.Store x f e) w h o
    does_store x f e w h o good k = as_made k m (λ p n. code.store scope x f e n) (made_of m (kind.Store x f e)) (statement_kind_uses (StatementKind-F.Store x f e)) (uses_of (kind.Store x f e)) w h o
        (views.fold-Store (kind_part scope) block_made level x f e) (views.fold-Store statement_kind_uses block_used level x f e) (good k)

    does_call : (c : CallTree) (w : Values) (h : Heap) (o : Outcome) → ((k : ℕ) → Simulated P r k m (λ p n. code.call scope None c n) (statement_kind_uses (StatementKind-F.Call c)) w h o) → Does_so (kind.Call c) w h o
    does_call c w h o good k = as_made k m (λ p n. code.call scope None c n) (made_of m (kind.Call c)) (statement_kind_uses (StatementKind-F.Call c)) (uses_of (kind.Call c)) w h o
        (views.fold-Call (kind_part scope) block_made level c) (views.fold-Call statement_kind_uses block_used level c) (good k)

    does_return : (e : Option ExprTree) (w : Values) (h : Heap) (o : Outcome) → ((k : ℕ) → Simulated P r k m (λ p n. code.give scope e n) (statement_kind_uses (StatementKind-F.Return e)) w h o) → Does_so (kind.Return e) w h o
    does_return e w h o good k = as_made k m (λ p n. code.give scope e n) (made_of m (kind.Return e)) (statement_kind_uses (StatementKind-F.Return e)) (uses_of (kind.Return e)) w h o
        (views.fold-Return (kind_part scope) block_made level e) (views.fold-Return statement_kind_uses block_used level e) (good k)

    does_if : (c : CondTree) (b : BlockTree) (w : Values) (h : Heap) (o : Outcome) →
        ((k : ℕ) → Simulated P r k m (code.branch scope c (block scope b) None) (statement_kind_uses (StatementKind-F.Branch c (block_uses b) None)) w h o) → Does_so (kind.Branch c b None) w h o
    does_if c b w h o good k = as_made k m (code.branch scope c (block scope b) None) (made_of m (kind.Branch c b None)) (statement_kind_uses (StatementKind-F.Branch c (block_uses b) None)) (uses_of (kind.Branch c b None)) w h o
        (views.fold-Branch-None (kind_part scope) block_made level c b) (views.fold-Branch-None statement_kind_uses block_used level c b) (good k)

    does_if_else : (c : CondTree) (b d : BlockTree) (w : Values) (h : Heap) (o : Outcome) →
        ((k : ℕ) → Simulated P r k m (code.branch scope c (block scope b) (Some (block scope d))) (statement_kind_uses (StatementKind-F.Branch c (block_uses b) (Some (block_uses d)))) w h o) → Does_so (kind.Branch c b (Some d)) w h o
    does_if_else c b d w h o good k =
        as_made k m (code.branch scope c (block scope b) (Some (block scope d))) (made_of m (kind.Branch c b (Some d))) (statement_kind_uses (StatementKind-F.Branch c (block_uses b) (Some (block_uses d))))
        (uses_of (kind.Branch c b (Some d))) w h o
        (views.fold-Branch-Some (kind_part scope) block_made level c b d) (views.fold-Branch-Some statement_kind_uses block_used level c b d) (good k)

    does_branch : (c : CondTree) (b : BlockTree) (other : Option BlockTree) (w : Values) (h : Heap) (o : Outcome) → values.holds scope w c ≡ true → Does_block b w h o → Does_so (kind.Branch c b other) w h o
    does_branch c b None w h o e good = does_if c b w h o (λ k. branching.branches P r k m c (block scope b) (block_uses b) w h o e (good k))
    does_branch c b (Some d) w h o e good = does_if_else c b d w h o (λ k. branching.branches_first P r k m c (block scope b) (block scope d) (block_uses b) (block_uses d) w h o e (good k))

    does_else : (c : CondTree) (b d : BlockTree) (w : Values) (h : Heap) (o : Outcome) → values.holds scope w c ≡ false → Does_block d w h o → Does_so (kind.Branch c b (Some d)) w h o
    does_else c b d w h o e good = does_if_else c b d w h o
        (λ k. branching.branches_second P r k m c (block scope b) (block scope d) (block_uses b) (block_uses d) w h o (block_grows scope b) e (good k))

    does_pass : (c : CondTree) (b : BlockTree) (w : Values) (h : Heap) → values.holds scope w c ≡ false → Does_so (kind.Branch c b None) w h (Goes w h)
    does_pass c b w h e = does_if c b w h (Goes w h) (λ k. branching.passes P r k m c (block scope b) (block_uses b) w h e)

    -- a statement in a row
    in_row : (s : StatementKind) (at k : ℕ) (w : Values) (h : Heap) (o : Outcome) → Does_so s w h o → Simulated P r k m (code.statement scope (record { kind = s; at = at })) (statement_uses (record { kind = s; at = at })) w h o
    in_row s at k w h o good = as_made k m (made_of m s) (code.statement scope (record { kind = s; at = at })) (uses_of s) (statement_uses (record { kind = s; at = at })) w h o
        (views.fold-statement (kind_part scope) block_made level s at) (views.fold-statement statement_kind_uses block_used level s at) (good k)

    in_block : (ss : List StatementTree) (at end k : ℕ) (w : Values) (h : Heap) (o : Outcome) → Row P r k m ss w h o →
        Simulated P r k m (block scope (roll-BlockTree (record { statements = ss; at = at; end = end }))) (block_uses (roll-BlockTree (record { statements = ss; at = at; end = end }))) w h o
    in_block ss at end k w h o row = as_made k m (each (map (code.statement scope) ss)) (block scope (roll-BlockTree (record { statements = ss; at = at; end = end })))
        (flat_map (λ s. s) (map statement_uses ss)) (block_uses (roll-BlockTree (record { statements = ss; at = at; end = end }))) w h o
        (views.fold-block (kind_part scope) block_made level ss at end) (views.fold-block statement_kind_uses block_used level ss at end) (branching.row_block P r k m ss w h o row)

  -- ---- all runs

  mutual
    sets_sim : (m : MethodTree) (to : ℕ) (v : ValueTree) (w : Values) (h : Heap) (o : Outcome) → Sets r P m to v w h o → Sets_so m to v w h o
    sets_sim m to _ w h _ (blocks.expression {e = e}) k = statements.sets_expression P r k m to e w h
    sets_sim m to _ w h _ (blocks.field {x = x} {f = f} {g = g} is has) k = statements.sets_field P r k m to x f g w h is has
    sets_sim m to _ w h _ (blocks.no_node {x = x} {f = f} {g = g} is never) k = statements.sets_nowhere P r k m to x f g w h is never
    sets_sim m to _ w h _ (blocks.new {at = at} {x = x} {args = args} q place) k = statements.sets_new P r k m to at x args w h q place
    sets_sim m to _ w h _ (blocks.result {c = c} {t = t} {n = n} {k = l} is run) k =
        statements.call_goes P r k m (Some to) c t (Some n) w (updated w to n) h l is (runs_sim c (all_values (scope_of r m) w t.args) h (Gives (Some n) l) run)
        (λ s a. takes_result (length (scope_of r m).variables) to n w s a)
    sets_sim m to _ w h _ (blocks.no_result {c = c} {t = t} {q = q} is run) k =
        statements.call_fails P r k m (Some to) c t q w h is (runs_sim c (all_values (scope_of r m) w t.args) h (Fails q) run)

    does_sim : (m : MethodTree) (s : StatementKind) (w : Values) (h : Heap) (o : Outcome) → Does r P m s w h o → Does_so m s w h o
    does_sim m _ w h _ (blocks.declares {t = t} {x = x}) = does_declares m t x w h
    does_sim m _ w h o (blocks.begins {t = t} {x = x} {v = v} d) = does_begins m t x v w h o (sets_sim m (slot_of (scope_of r m) x.text) v w h o d)
    does_sim m _ w h o (blocks.assigns {x = x} {v = v} d) = does_assigns m x v w h o (sets_sim m (slot_of (scope_of r m) x.text) v w h o d)
    does_sim m _ w h _ (blocks.stores {x = x} {f = f} {e = e} {g = g} is has) = does_store m x f e w h (Goes w (put_node h (values.variable_value (scope_of r m) w x) (record { of = g.node; values = slice_set has.node.values (g.number - 1) (values.expression_value (scope_of r m) w e) })))
        (λ k. statements.stores P r k m x f e g w h is has)
    does_sim m _ w h _ (blocks.stores_nowhere {x = x} {f = f} {e = e} {g = g} is never) = does_store m x f e w h (Fails (values.variable_value (scope_of r m) w x)) (λ k. statements.stores_nowhere P r k m x f e g w h is never)
    does_sim m _ w h _ (blocks.calls {c = c} {t = t} {v = v} {k = l} is run) = does_call m t w h (Goes w l)
        (λ k. statements.call_goes P r k m None c t v w w h l is (runs_sim c (all_values (scope_of r m) w t.args) h (Gives v l) run) (λ s a. takes_none (length (scope_of r m).variables) v w s a))
    does_sim m _ w h _ (blocks.call_fails {c = c} {t = t} {q = q} is run) = does_call m t w h (Fails q)
        (λ k. statements.call_fails P r k m None c t q w h is (runs_sim c (all_values (scope_of r m) w t.args) h (Fails q) run))
    does_sim m _ w h o (blocks.branches {c = c} {b = b} other e d) = does_branch m c b other w h o e (block_sim m b w h o d)
    does_sim m _ w h o (blocks.branches_else {c = c} {d = e} b is d) = does_else m c b e w h o is (block_sim m e w h o d)
    does_sim m _ w h _ (blocks.passes {c = c} b is) = does_pass m c b w h is
    does_sim m _ w h _ blocks.returns = does_return m None w h (Gives None h) (λ k. statements.returns P r k m w h)
    does_sim m _ w h _ (blocks.returns_value {e = e}) = does_return m (Some e) w h (Gives (Some (values.expression_value (scope_of r m) w e)) h) (λ k. statements.returns_value P r k m e w h)

    all_sim : (m : MethodTree) (ss : List StatementTree) (w : Values) (h : Heap) (o : Outcome) → DoesAll r P m ss w h o → (k : ℕ) → Row P r k m ss w h o
    all_sim m _ w h _ blocks.nothing k = branching.row_nothing P r k m w h
    all_sim m _ w h o (blocks.goes_on {s = s} {at = at} {ss = ss} {u = u} {k = l} d e) k =
        branching.row_goes P r k m (record { kind = s; at = at }) ss w u h l o (in_row m s at k w h (Goes u l) (does_sim m s w h (Goes u l) d)) (all_sim m ss u l o e k)
    all_sim m _ w h o (blocks.stops {s = s} {at = at} {ss = ss} d stop) k =
        branching.row_stops P r k m (record { kind = s; at = at }) ss w h o (in_row m s at k w h o (does_sim m s w h o d)) stop

    block_sim : (m : MethodTree) (b : BlockTree) (w : Values) (h : Heap) (o : Outcome) → DoesBlock r P m b w h o → Does_block m b w h o
    block_sim m _ w h o (blocks.block {ss = ss} at end d) k = in_block m ss at end k w h o (all_sim m ss w h o d k)

    pub runs_sim : (m : MethodTree) (args : List ℤ) (h : Heap) (o : Outcome) → Runs r P m args h o → statements.Runs_to P r 0 m m args h o
    runs_sim m args h o (blocks.stopped d stop) = runs_stopped m args h o (block_sim m m.block (first_values args) h o d)
    runs_sim m args h _ (blocks.ended {w = w} {k = l} d gives) = runs_ended m args w h l (block_sim m m.block (first_values args) h (Goes w l) d) gives
