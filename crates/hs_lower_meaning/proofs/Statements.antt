-- What the code of values, fields and calls comes to.
use Rattle.std.proofs.Common.{◌≡◌, ℕ, suc, ◌+◌, ◌-◌, ℤ, pos, true, List, [], ◌∷◌, ◌++◌, length, map, Option, Some, None, slice_set, refl, sym, ap, ◌∙◌, subst, arith, length-append}
use Rattle.hs_tree.specs.declared.ident.Ident.{Ident}
use Rattle.hs_tree.specs.declared.expr.ExprTree.{ExprTree}
use Rattle.hs_tree.specs.declared.method.CallTree.{CallTree}
use Rattle.hs_tree.specs.declared.method.ValueTree.{ValueTree}
use Rattle.hs_tree.specs.declared.method.ValueTree.TheVariants as value_of
use Rattle.hs_heap.specs.Heap.{Heap, find_node, put_node}
use Rattle.hs_pure.specs.Truth.{value}
use Rattle.hs_norm.specs.declared.resolved.MethodTree.{MethodTree}
use Rattle.hs_norm.specs.declared.resolved.Resolved.{Resolved}
use Rattle.hs_norm_sound.specs.Uses.{Use, Name, number_uses, call_uses, value_uses}
use Rattle.hs_core.specs.declared.instr.Instr.{Instr}
use Rattle.hs_core.specs.declared.instr.Instr.TheVariants.{Assign, New, Get, Set, Call, Return}
use Rattle.hs_core.specs.declared.program.Program.{Program}
use Rattle.hs_core.specs.Machine.{Place, Frame, Slots, StepsFrom, HasNode, TakesResult, EndsBy, Faulted, numbered, updated, stack_at, called}
use Rattle.hs_lower_scope.specs.declared.variable.Field.{Field}
use Rattle.hs_lower_scope.specs.Scope.{Scope, scope_of, slot_of, node_number, method_named, method_number}
use Rattle.hs_lower_scope.specs.Terms.{term_of}
use Rattle.hs_lower.specs.declared.made.Placed.{Placed}
use Rattle.hs_lower.specs.Code as code
use Rattle.hs_lower.specs.Code.{Part, load_by, store_by, placed, all_placed, give}
use Rattle.hs_lower.specs.Lowering.{program_of}
use Rattle.hs_lower_meaning.specs.Values.{Values, variable_value, expression_value, all_values}
use Rattle.hs_lower_meaning.specs.Blocks.{Outcome, Goes, Gives, Fails, field_named}
use Rattle.hs_lower_meaning.proofs.Sums.{value_is}
use Rattle.hs_lower_meaning.proofs.Steps.{Steps, stay, go, frame, Stands, stands_first, stands_after, does}
use Rattle.hs_lower_meaning.proofs.Placing.{Agree, agree_more, names_agree, args_run, placed_run}
use Rattle.hs_lower_meaning.proofs.Reached.{IsMethod, Called, method_by_name, Reached, Simulated, call_step, call_returns}

-- a node at a location, which is written otherwise
abbrev pub has_at : (h : Heap) (a b : ℤ) (kind : ℕ) → a ≡ b → HasNode h a kind → HasNode h b kind
has_at h a b kind e has = record { node = has.node; found = ap (find_node h) (sym e) ∙ has.found; kind_is = has.kind_is }

module _ (P : Place) (r : Resolved) (k : ℕ) (m : MethodTree) where
  abbrev program : Program
  program = program_of r

  abbrev scope : Scope
  scope = scope_of r m

  abbrev count : ℕ
  count = length scope.variables

  abbrev S : List Frame → Heap → List Frame → Heap → Type 0
  S = StepsFrom P program

  abbrev Sim : Part → List Use → Values → Heap → Outcome → Type 0
  Sim = Simulated P r k m

  abbrev At : ℕ → List Instr → Type 0
  At = Stands P program k

  abbrev set_part : ℕ → ValueTree → Part
  set_part to v p n = code.value scope to v n

  next : (p : ℕ) → suc p ≡ p + 1
  next p = omega arith

  after : (p : ℕ) (a : List Instr) (i : Instr) → suc (p + length a) ≡ p + length (a ++ i ∷ [])
  after p a i = let total = length-append a (i ∷ []) in omega arith

  none : (p : ℕ) → p ≡ p + 0
  none p = omega arith

  -- ---- values

  pub sets_expression : (to : ℕ) (e : ExprTree) (w : Values) (h : Heap) → Sim (set_part to (value_of.Value e)) (number_uses e) w h (Goes (updated w to (expression_value scope w e)) h)
  sets_expression to e w h used p n s fs enough a at =
      let x = value (stack_at s) (term_of scope e) in
      let t = updated s to x in (
        t,
        subst (λ q. Steps S (frame k p s ∷ fs) h (frame k q t ∷ fs) h) (next p) (does P program k p (Assign to (term_of scope e)) s fs h (frame k (suc p) t) h at.0 (refl, refl)),
        agree_more count w s to (expression_value scope w e) x a (value_is scope w s (names_agree scope w s a) e used.0),
        refl,
      )

  pub sets_field : (to : ℕ) (x f : Ident) (g : Field) (w : Values) (h : Heap) → field_named r m x f ≡ Some g → (has : HasNode h (variable_value scope w x) g.node) →
      Sim (set_part to (value_of.Load x f)) (Name x ∷ []) w h (Goes (updated w to (numbered has.node.values g.number (pos 0))) h)
  sets_field to x f g w h is has used p n s fs enough a at =
      subst (λ o. At p (load_by to (slot_of scope x.text) n o).code → Reached P r k m (frame k p s ∷ fs) fs h (p + length (load_by to (slot_of scope x.text) n o).code) (load_by to (slot_of scope x.text) n o).ends (Goes (updated w to (numbered has.node.values g.number (pos 0))) h))
      (sym is) here at
    where
      y : ℤ
      y = numbered has.node.values g.number (pos 0)

      here : At p (Get to (slot_of scope x.text) g.node g.number ∷ []) → Reached P r k m (frame k p s ∷ fs) fs h (p + 1) true (Goes (updated w to y) h)
      here at = (
        updated s to y,
        subst (λ q. Steps S (frame k p s ∷ fs) h (frame k q (updated s to y) ∷ fs) h) (next p)
            (does P program k p (Get to (slot_of scope x.text) g.node g.number) s fs h (frame k (suc p) (updated s to y)) h at.0
            (has_at h (w (slot_of scope x.text)) (s (slot_of scope x.text)) g.node (sym (names_agree scope w s a x)) has, refl, refl)),
        agree_more count w s to y y a refl,
        refl,
      )

  pub sets_nowhere : (to : ℕ) (x f : Ident) (g : Field) (w : Values) (h : Heap) → field_named r m x f ≡ Some g → (HasNode h (variable_value scope w x) g.node → ⊥) →
      Sim (set_part to (value_of.Load x f)) (Name x ∷ []) w h (Fails (variable_value scope w x))
  sets_nowhere to x f g w h is never used p n s fs enough a at =
      subst (λ o. At p (load_by to (slot_of scope x.text) n o).code → Reached P r k m (frame k p s ∷ fs) fs h (p + length (load_by to (slot_of scope x.text) n o).code) (load_by to (slot_of scope x.text) n o).ends (Fails (variable_value scope w x)))
      (sym is) here at
    where
      here : At p (Get to (slot_of scope x.text) g.node g.number ∷ []) → Reached P r k m (frame k p s ∷ fs) fs h (p + 1) true (Fails (variable_value scope w x))
      here at = (
        frame k p s ∷ fs,
        h,
        stay S (frame k p s ∷ fs) h,
        subst (λ o. EndsBy program o (frame k p s) fs h (Faulted (w (slot_of scope x.text)))) (sym at.0)
            (λ has. never (has_at h (s (slot_of scope x.text)) (w (slot_of scope x.text)) g.node (names_agree scope w s a x) has), ap Faulted (sym (names_agree scope w s a x))),
      )

  pub sets_new : (to at : ℕ) (x : Ident) (args : List ExprTree) (w : Values) (h : Heap) (q : ℤ) → P h q →
      Sim (set_part to (value_of.New at x args)) (value_uses (value_of.New at x args)) w h (Goes (updated w to q) (put_node h q (record { of = node_number r.defs x.text; values = all_values scope w args })))
  sets_new to at x args w h q place used p n s fs enough a here =
      let all = all_placed scope args n in
      let i = New to (node_number r.defs x.text) all.args in
      let ran = args_run P program k scope p n args w s fs h enough used.1 a (stands_first P program k p all.code (i ∷ []) here) in
      let t = ran.0 in
      let there = stands_after P program k p all.code (i ∷ []) here in
      let l = put_node h q (record { of = node_number r.defs x.text; values = all_values scope w args }) in
      let step = does P program k (p + length all.code) i t fs h (frame k (suc (p + length all.code)) (updated t to q)) l there.0
      (q, place, refl, ap (λ vs. put_node h q (record { of = node_number r.defs x.text; values = vs })) (sym ran.3)) in (
        updated t to q,
        subst (λ j. Steps S (frame k p s ∷ fs) h (frame k j (updated t to q) ∷ fs) l) (after p all.code i)
            (go S (frame k p s ∷ fs) h (frame k (p + length all.code) t ∷ fs) h (frame k (suc (p + length all.code)) (updated t to q) ∷ fs) l ran.1 step),
        agree_more count w t to q q ran.2 refl,
        refl,
      )

  -- ---- calls

  -- what a called method comes to, over any callers
  abbrev pub Runs_to : MethodTree → List ℤ → Heap → Outcome → Type 0
  Runs_to c args h o = (j : ℕ) → IsMethod r j c → (fs : List Frame) → Called P r j (called j args ∷ fs) fs h o

  abbrev call_part : Option ℕ → CallTree → Part
  call_part to t p n = code.call scope to t n

  pub call_goes : (to : Option ℕ) (c : MethodTree) (e : CallTree) (v : Option ℤ) (w u : Values) (h l : Heap) → method_named scope e.name.text ≡ Some c → Runs_to c (all_values scope w e.args) h (Gives v l) →
      ((s : Slots) → Agree count w s → (t : Slots) × TakesResult to v s t × Agree count u t) → Sim (call_part to e) (call_uses e) w h (Goes u l)
  call_goes to c e v w u h l is good takes used p n s fs enough a here =
      let all = all_placed scope e.args n in
      let j = method_number scope e.name.text in
      let i = Call to j all.args in
      let ran = args_run P program k scope p n e.args w s fs h enough used.1 a (stands_first P program k p all.code (i ∷ []) here) in
      let t = ran.0 in
      let there = stands_after P program k p all.code (i ∷ []) here in
      let q = p + length all.code in
      let callee = method_by_name P r m c e.name.text is in
      let run = subst (λ vs. Called P r j (called j vs ∷ frame k q t ∷ fs) (frame k q t ∷ fs) h (Gives v l)) (sym ran.3) (good j callee (frame k q t ∷ fs)) in
      let takes = takes t ran.2 in
      let step = call_returns P r k m q j c to all.args t takes.0 fs h l run.0 v there.0 callee run.1 run.2 takes.1 in (
        takes.0,
        subst (λ j. Steps S (frame k p s ∷ fs) h (frame k j takes.0 ∷ fs) l) (after p all.code i)
            (go S (frame k p s ∷ fs) h (frame k q t ∷ fs) h (frame k (suc q) takes.0 ∷ fs) l ran.1 step),
        takes.2,
        refl,
      )

  pub call_fails : (to : Option ℕ) (c : MethodTree) (e : CallTree) (z : ℤ) (w : Values) (h : Heap) → method_named scope e.name.text ≡ Some c → Runs_to c (all_values scope w e.args) h (Fails z) →
      Sim (call_part to e) (call_uses e) w h (Fails z)
  call_fails to c e z w h is good used p n s fs enough a here =
      let all = all_placed scope e.args n in
      let j = method_number scope e.name.text in
      let i = Call to j all.args in
      let ran = args_run P program k scope p n e.args w s fs h enough used.1 a (stands_first P program k p all.code (i ∷ []) here) in
      let t = ran.0 in
      let there = stands_after P program k p all.code (i ∷ []) here in
      let q = p + length all.code in
      let callee = method_by_name P r m c e.name.text is in
      let run = subst (λ vs. Called P r j (called j vs ∷ frame k q t ∷ fs) (frame k q t ∷ fs) h (Fails z)) (sym ran.3) (good j callee (frame k q t ∷ fs)) in
      let begun = go S (frame k p s ∷ fs) h (frame k q t ∷ fs) h (called j (map t all.args) ∷ frame k q t ∷ fs) h ran.1 (call_step P r k m q j to all.args t fs h there.0) in (
        run.0,
        run.1,
        go S (frame k p s ∷ fs) h (called j (map t all.args) ∷ frame k q t ∷ fs) h run.0 run.1 begun run.2,
        run.3,
      )

  -- ---- fields that are written

  abbrev store_part : Ident → Ident → ExprTree → Part
  store_part x f e p n = code.store scope x f e n

  pub stores : (x f : Ident) (e : ExprTree) (g : Field) (w : Values) (h : Heap) → field_named r m x f ≡ Some g → (has : HasNode h (variable_value scope w x) g.node) →
      Sim (store_part x f e) (Name x ∷ number_uses e) w h
      (Goes w (put_node h (variable_value scope w x) (record { of = g.node; values = slice_set has.node.values (g.number - 1) (expression_value scope w e) })))
  stores x f e g w h is has used p n s fs enough a at =
      subst (λ o. At p (store_by (slot_of scope x.text) d n o).code → Reached P r k m (frame k p s ∷ fs) fs h (p + length (store_by (slot_of scope x.text) d n o).code) (store_by (slot_of scope x.text) d n o).ends (Goes w l))
      (sym is) here at
    where
      d : Placed
      d = placed scope e n

      l : Heap
      l = put_node h (variable_value scope w x) (record { of = g.node; values = slice_set has.node.values (g.number - 1) (expression_value scope w e) })

      i : Instr
      i = Set (slot_of scope x.text) g.node g.number d.slot

      here : At p (d.code ++ i ∷ []) → Reached P r k m (frame k p s ∷ fs) fs h (p + length (d.code ++ i ∷ [])) true (Goes w l)
      here at =
          let ran = placed_run P program k scope p n e w s fs h enough used.1.0 a (stands_first P program k p d.code (i ∷ []) at) in
          let t = ran.0 in
          let there = stands_after P program k p d.code (i ∷ []) at in
          let q = p + length d.code in
          let same = names_agree scope w t ran.2 x in
          let step = does P program k q i t fs h (frame k (suc q) t) l there.0 (
            has_at h (w (slot_of scope x.text)) (t (slot_of scope x.text)) g.node (sym same) has,
            refl,
            λ j. put_node h (sym same j) (record { of = g.node; values = slice_set has.node.values (g.number - 1) (sym ran.3 j) }),
          ) in (
            t,
            subst (λ j. Steps S (frame k p s ∷ fs) h (frame k j t ∷ fs) l) (after p d.code i) (go S (frame k p s ∷ fs) h (frame k q t ∷ fs) h (frame k (suc q) t ∷ fs) l ran.1 step),
            ran.2,
            refl,
          )

  pub stores_nowhere : (x f : Ident) (e : ExprTree) (g : Field) (w : Values) (h : Heap) → field_named r m x f ≡ Some g → (HasNode h (variable_value scope w x) g.node → ⊥) →
      Sim (store_part x f e) (Name x ∷ number_uses e) w h (Fails (variable_value scope w x))
  stores_nowhere x f e g w h is never used p n s fs enough a at =
      subst (λ o. At p (store_by (slot_of scope x.text) d n o).code → Reached P r k m (frame k p s ∷ fs) fs h (p + length (store_by (slot_of scope x.text) d n o).code) (store_by (slot_of scope x.text) d n o).ends (Fails (variable_value scope w x)))
      (sym is) here at
    where
      d : Placed
      d = placed scope e n

      i : Instr
      i = Set (slot_of scope x.text) g.node g.number d.slot

      here : At p (d.code ++ i ∷ []) → Reached P r k m (frame k p s ∷ fs) fs h (p + length (d.code ++ i ∷ [])) true (Fails (variable_value scope w x))
      here at =
          let ran = placed_run P program k scope p n e w s fs h enough used.1.0 a (stands_first P program k p d.code (i ∷ []) at) in
          let t = ran.0 in
          let there = stands_after P program k p d.code (i ∷ []) at in
          let q = p + length d.code in
          let same = names_agree scope w t ran.2 x in (
            frame k q t ∷ fs,
            h,
            ran.1,
            subst (λ o. EndsBy program o (frame k q t) fs h (Faulted (w (slot_of scope x.text)))) (sym there.0)
                (λ has. never (has_at h (t (slot_of scope x.text)) (w (slot_of scope x.text)) g.node same has), ap Faulted (sym same)),
          )

  -- ---- returns

  abbrev give_part : Option ExprTree → Part
  give_part e p n = give scope e n

  pub returns : (w : Values) (h : Heap) → Sim (give_part None) [] w h (Gives None h)
  returns w h used p n s fs enough a at = (frame k p s, stay S (frame k p s ∷ fs) h, (None, at.0, refl, refl))

  pub returns_value : (e : ExprTree) (w : Values) (h : Heap) → Sim (give_part (Some e)) (number_uses e) w h (Gives (Some (expression_value scope w e)) h)
  returns_value e w h used p n s fs enough a at =
      let d = placed scope e n in
      let i = Return (Some d.slot) in
      let ran = placed_run P program k scope p n e w s fs h enough used.0 a (stands_first P program k p d.code (i ∷ []) at) in
      let there = stands_after P program k p d.code (i ∷ []) at in
      (frame k (p + length d.code) ran.0, ran.1, (Some d.slot, there.0, ap Some ran.3, refl))

  -- ---- nothing

  pub nothing : (w : Values) (h : Heap) → Sim (λ p n. code.made [] n true) [] w h (Goes w h)
  nothing w h used p n s fs enough a at = (s, subst (λ q. Steps S (frame k p s ∷ fs) h (frame k q s ∷ fs) h) (none p) (stay S (frame k p s ∷ fs) h), a, refl)
