-- What places values in slots reads what is set.
use Rattle.std.proofs.Common.{◌≡◌, ℕ, suc, ◌+◌, nat_eq, Bool, true, false, List, [], ◌∷◌, length, Option, Some, None, IsSome, refl, subst, eq-eqb}
use Rattle.std.specs.List.{fold, AllByRecursion}
use Rattle.std.proofs.lemmas.List.Elements.{All-cons, All-nil}
use Rattle.hs_tree.specs.declared.ident.Ident.{Ident}
use Rattle.hs_tree.specs.declared.expr.PartTree.{PartTree}
use Rattle.hs_tree.specs.declared.expr.PartTree.TheVariants as part
use Rattle.hs_tree.specs.declared.expr.ExprTree.{ExprTree}
use Rattle.hs_tree.specs.declared.method.CallTree.{CallTree}
use Rattle.hs_tree.specs.declared.method.ValueTree.{ValueTree}
use Rattle.hs_tree.specs.declared.method.ValueTree.TheVariants as value_of
use Rattle.hs_core.specs.declared.instr.Instr.TheVariants.{Assign, New, Get, Call}
use Rattle.hs_core.specs.Set.{optional}
use Rattle.hs_lower_scope.specs.declared.variable.Field.{Field}
use Rattle.hs_lower_scope.specs.Scope.{Scope, slot_of, node_number, method_number}
use Rattle.hs_lower_scope.specs.Terms.{bare, bare_parts, parts_of, term_of}
use Rattle.hs_lower_faults.specs.First.{all}
use Rattle.hs_lower_faults.specs.Setting as setting
use Rattle.hs_lower.specs.declared.made.PlacedAll.{PlacedAll}
use Rattle.hs_lower.specs.Code as lower
use Rattle.hs_lower_set.proofs.Safe.{Slots, AreSet, with_all, with_more, or_left}
use Rattle.hs_lower_set.proofs.Segments.{Segment, one, Placing, place_none, place_both, after}
use Rattle.hs_lower_set.proofs.Terms.{NameIsSet, PartIsSet, ExprIsSet, term_set, slots_set, expr_wider}
use Rattle.hs_lower_set.proofs.Telling.{Tells, each_tells, set_tells}
use Rattle.hs_lower_set.proofs.Conditions.{expression_tells}
use Rattle.hs_lower_set.proofs.Typing.{FieldIsThere}

pub single : (s : Slots) (k : ℕ) → s k ≡ true → AreSet s (k ∷ [])
single s k h = All-cons (λ k. s k ≡ true) k [] h (All-nil (λ k. s k ≡ true))

module _ (scope : Scope) where
  -- ---- expressions

  bare_set : (s : Slots) (ps : List (Bool × PartTree)) (x : Ident) → bare_parts ps ≡ Some x → AllByRecursion (PartIsSet s scope) ps → NameIsSet s scope x
  bare_set s [] x e h = cc
  bare_set s ((true, p) ∷ []) x e h = cc
  bare_set s ((false, part.Number m) ∷ []) x e h = cc
  bare_set s ((false, part.Times m y) ∷ []) x e h = cc
  bare_set s ((false, part.Name y) ∷ []) x e h = subst (NameIsSet s scope) (let same : y ≡ x = cc in same) h.0
  bare_set s ((false, part.Null) ∷ []) x e h = cc
  bare_set s (p ∷ q ∷ ps) x e h = cc

  -- a value where its expression's variables are set
  pub place : (e : ExprTree) (n p : ℕ) (s : Slots) → ExprIsSet s scope e → Placing (lower.placed scope e n).code p s ((lower.placed scope e n).slot ∷ [])
  place e n p s h = of (bare e) refl
    where
      of : (o : Option Ident) → bare e ≡ o → Placing (lower.placed_by scope e n o).code p s ((lower.placed_by scope e n o).slot ∷ [])
      of None is = record {
        set = with_all (suc n ∷ []) s;
        segment = one (Assign (suc n) (term_of scope e)) p s (λ p j goes. goes) (slots_set s (term_of scope e) (term_set s scope e h));
        more = with_more (suc n ∷ []) s;
        given = single (with_all (suc n ∷ []) s) (suc n) (or_left (nat_eq (suc n) (suc n)) (s (suc n)) (eq-eqb (suc n) (suc n) refl));
      }
      of (Some x) is = place_none p s (slot_of scope x.text ∷ []) (single s (slot_of scope x.text) (bare_set s (parts_of e.kind) x is h))

  -- ---- arguments

  abbrev pub ArgsAreSet : Slots → List ExprTree → Type 0
  ArgsAreSet s es = AllByRecursion (ExprIsSet s scope) es

  place_from : (es : List ExprTree) (done : PlacedAll) (p : ℕ) (s : Slots) → ArgsAreSet s es → Placing done.code p s done.args →
      Placing (fold (lower.next_placed scope) done es).code p s (fold (lower.next_placed scope) done es).args
  place_from [] done p s h x = x
  place_from (e ∷ es) done p s h x =
      let a = lower.placed scope e done.slots in
      let q = p + length done.code in
      place_from es (lower.next_placed scope done e) p s h.1 (place_both done.code a.code p q s done.args (a.slot ∷ []) refl x (place e done.slots q x.set (expr_wider scope s x.set x.more e h.0)))

  place_all : (es : List ExprTree) (n p : ℕ) (s : Slots) → ArgsAreSet s es → Placing (lower.all_placed scope es n).code p s (lower.all_placed scope es n).args
  place_all es n p s h = place_from es (record { code = []; slots = n; args = [] }) p s h (place_none p s [] (All-nil (λ k. s k ≡ true)))

  pub args_tell : (s : Slots) (es : List ExprTree) → Tells (all (setting.expression scope s) es) (ArgsAreSet s es)
  args_tell s es = each_tells (setting.expression scope s) (ExprIsSet s scope) (expression_tells scope s) es

  -- ---- values

  abbrev pub ValueIsSet : Slots → ValueTree → Type 0
  ValueIsSet s (value_of.New at x args) = ArgsAreSet s args
  ValueIsSet s (value_of.Call c) = ArgsAreSet s c.args
  ValueIsSet s (value_of.Load x f) = NameIsSet s scope x
  ValueIsSet s (value_of.Value e) = ExprIsSet s scope e

  pub value_reads : (s : Slots) (v : ValueTree) → Tells (setting.value scope s v) (ValueIsSet s v)
  value_reads s (value_of.New at x args) = args_tell s args
  value_reads s (value_of.Call c) = args_tell s c.args
  value_reads s (value_of.Load x f) = set_tells (s (slot_of scope x.text)) x.at
  value_reads s (value_of.Value e) = expression_tells scope s e

  pub call_made : (to : Option ℕ) (c : CallTree) (n p : ℕ) (s : Slots) → ArgsAreSet s c.args → Segment (lower.call scope to c n).code p s (with_all (optional to) s)
  call_made to c n p s h =
      let a = lower.all_placed scope c.args n in
      after a.code p s a.args (place_all c.args n p s h) (Call to (method_number scope c.name.text) a.args) (λ p j goes. goes) refl

  load_made : (to at n p : ℕ) (s : Slots) (o : Option Field) → s at ≡ true → IsSome o → ((lower.load_by to at n o).ends ≡ true) × Segment (lower.load_by to at n o).code p s (with_all (to ∷ []) s)
  load_made to at n p s None h there = cc
  load_made to at n p s (Some f) h there = (refl, one (Get to at f.node f.number) p s (λ p j goes. goes) (single s at h))

  -- a value that goes to a slot
  pub value_made : (to : ℕ) (v : ValueTree) (n p : ℕ) (s : Slots) → ValueIsSet s v → FieldIsThere scope v → ((lower.value scope to v n).ends ≡ true) × Segment (lower.value scope to v n).code p s (with_all (to ∷ []) s)
  value_made to (value_of.New at x args) n p s h there =
      let a = lower.all_placed scope args n in
      (refl, after a.code p s a.args (place_all args n p s h) (New to (node_number scope.defs x.text) a.args) (λ p j goes. goes) refl)
  value_made to (value_of.Call c) n p s h there = (refl, call_made (Some to) c n p s h)
  value_made to (value_of.Load x f) n p s h there = load_made to (slot_of scope x.text) n p s (lower.field_found scope x f) h there
  value_made to (value_of.Value e) n p s h there = (refl, one (Assign to (term_of scope e)) p s (λ p j goes. goes) (slots_set s (term_of scope e) (term_set s scope e h)))
