-- What is made of values, fields and calls fits, where types fit and what is used is there.
use Rattle.std.proofs.Common.{◌≡◌, ℕ, suc, ◌+◌, ◌≤◌, Bool, true, false, List, [], ◌∷◌, length, Option, Some, None, option_map, slice_get, is_some, refl, sym, ap, ◌∙◌, subst, arith, length-append, le_refl}
use Rattle.std.specs.List.{AllByRecursion, fold, flat_map}
use Rattle.std.specs.Str.{bytes_eq}
use Rattle.std.proofs.lemmas.List.Elements.{All-nil}
use Rattle.hs_tree.specs.declared.ident.Ident.{Ident}
use Rattle.hs_tree.specs.declared.expr.PartTree.{PartTree}
use Rattle.hs_tree.specs.declared.expr.PartTree.TheVariants as part
use Rattle.hs_tree.specs.declared.expr.ExprTree.{ExprTree}
use Rattle.hs_tree.specs.declared.expr.ExprKind.{ExprKind}
use Rattle.hs_tree.specs.declared.expr.ExprKind.TheVariants as expr
use Rattle.hs_tree.specs.declared.method.CallTree.{CallTree}
use Rattle.hs_tree.specs.declared.method.ValueTree.{ValueTree}
use Rattle.hs_tree.specs.declared.method.ValueTree.TheVariants as value_of
use Rattle.hs_heap.specs.declared.definitions.NodeDef.{NodeDef}
use Rattle.hs_heap.specs.declared.definitions.Defs.{Defs}
use Rattle.hs_heap.specs.Sound.{node_at}
use Rattle.hs_core.specs.declared.instr.Instr.TheVariants.{Assign, New, Get, Set, Call, Return}
use Rattle.hs_core.specs.declared.program.Program.{Program}
use Rattle.hs_core.specs.Machine.{method_of}
use Rattle.hs_core.specs.Sound.{IsUpTo, HasFields, HasField, TakesFit, AreApart}
use Rattle.hs_declared.specs.declared.types.VarType.{VarType}
use Rattle.hs_declared.specs.declared.types.VarType.TheVariants as kind
use Rattle.hs_norm.specs.declared.resolved.MethodTree.{MethodTree}
use Rattle.hs_norm_sound.specs.Uses.{Use, Name, part_uses, names_in, number_uses, call_uses, value_uses}
use Rattle.hs_norm_sound.specs.Uses as uses
use Rattle.hs_norm_sound.proofs.Found.{get_below, some_eq}
use Rattle.hs_lower_scope.specs.declared.variable.Field.{Field}
use Rattle.hs_lower_scope.specs.Scope.{Scope, slot_of, kind_of, kind_by, field_place, field_by, field_of, field_in, field_type, number_by_place, node_number, method_number, method_named}
use Rattle.hs_lower_scope.specs.Terms.{bare, bare_parts, bare_part, parts_of, term_of}
use Rattle.hs_lower.specs.declared.made.Made.{Made}
use Rattle.hs_lower.specs.declared.made.Placed.{Placed}
use Rattle.hs_lower.specs.declared.made.PlacedAll.{PlacedAll}
use Rattle.hs_lower.specs.Code.{load_by, store_by, placed_by, placed, next_placed, all_placed, call, new_node, field_found, load, value, store, give}
use Rattle.hs_lower_sound.specs.Lowerable.{IsThere}
use Rattle.hs_lower_sound.proofs.Passed.{split_all}
use Rattle.hs_lower_sound.proofs.Places.{first_at}
use Rattle.hs_lower_sound.proofs.Sums.{slot_fits, term_fits}
use Rattle.hs_lower_sound.proofs.Segments.{SegmentFits, PlacedFits, AllPlacedFit, up, nothing_fits, last_fits, one_fits, beside_fits}

-- ---- fields

-- a field that is found is there
pub field_there : (defs : Defs) (k : VarType) (f : List ℕ) (g : Field) → field_in defs k f ≡ Some g → HasField defs g.node g.number
field_there defs kind.Int f g e = cc
field_there defs (kind.Node k) f g e = of (node_at defs k) refl e
  where
    place : (d : NodeDef) → node_at defs k ≡ Some d → (i : ℕ) (y : List ℕ × Option ℕ) → slice_get d.fields i ≡ Some y → Some (record { node = k; number = suc i; kind = field_type y.1 }) ≡ Some g → HasField defs g.node g.number
    place d is i y got h =
        let same : record { node = k; number = suc i; kind = field_type y.1 } ≡ g = some_eq (record { node = k; number = suc i; kind = field_type y.1 }) g h in
        let lt = get_below d.fields i y got in
        subst (λ (g : Field). HasField defs g.node g.number) same (length d.fields, ap (option_map (λ (d : NodeDef). length d.fields)) is, (omega arith, omega arith))

    at : (d : NodeDef) → node_at defs k ≡ Some d → (i : ℕ) (o : Option (List ℕ × Option ℕ)) → slice_get d.fields i ≡ o → field_by k (suc i) (option_map (λ (x : List ℕ × Option ℕ). field_type x.1) o) ≡ Some g → HasField defs g.node g.number
    at d is i None got h = cc
    at d is i (Some y) got h = place d is i y got h

    in_type : (d : NodeDef) → node_at defs k ≡ Some d → (o : Option ℕ) → field_by k (number_by_place o) (kind_by d.fields o) ≡ Some g → HasField defs g.node g.number
    in_type d is None h = cc
    in_type d is (Some i) h = at d is i (slice_get d.fields i) refl h

    of : (o : Option NodeDef) → node_at defs k ≡ o → field_of k f o ≡ Some g → HasField defs g.node g.number
    of None is h = cc
    of (Some d) is h = in_type d is (field_place d.fields f) h

-- ---- calls

-- the method that a name names, as the program has it
pub record Callee (program : Program) (scope : Scope) (name : List ℕ) (m : MethodTree) : Type 0 where
  pub number : IsUpTo (length program.methods) (method_number scope name)
  pub params : (method_of program (method_number scope name)).params ≡ length m.params
  pub result : (method_of program (method_number scope name)).result ≡ is_some m.result
  pub refs : (method_of program (method_number scope name)).refs ≡ []

-- a value of a call has a method with a result
abbrev pub Gives : Scope → ValueTree → Type 0
Gives scope (value_of.New at x args) = Unit {0}
Gives scope (value_of.Call c) = (m : MethodTree) → method_named scope c.name.text ≡ Some m → is_some m.result ≡ true
Gives scope (value_of.Load x f) = Unit {0}
Gives scope (value_of.Value e) = Unit {0}

-- a return gives an expression exactly where a result is wanted
abbrev pub GivesBack : Option VarType → Option ExprTree → Type 0
GivesBack None None = Unit {0}
GivesBack None (Some e) = ⊥
GivesBack (Some want) None = ⊥
GivesBack (Some want) (Some e) = Unit {0}

module _ (program : Program) (scope : Scope) (calls : (name : List ℕ) (m : MethodTree) → method_named scope name ≡ Some m → Callee program scope name m) where
  abbrev gives : Bool
  gives = is_some scope.result

  abbrev count : ℕ
  count = length scope.variables

  abbrev F : Use → Type 0
  F = IsThere scope

  abbrev Segment : ℕ → ℕ → Made → Type 0
  Segment = SegmentFits scope.defs program gives

  abbrev IsPlaced : ℕ → ℕ → Placed → Type 0
  IsPlaced = PlacedFits scope.defs program gives

  abbrev ArePlaced : ℕ → ℕ → PlacedAll → Type 0
  ArePlaced = AllPlacedFit scope.defs program gives

  -- ---- what is placed

  bare_there : (e : ExprTree) (x : Ident) → bare e ≡ Some x → AllByRecursion F (names_in e.kind) → F (Name x)
  bare_there e x is h = of e.kind is h
    where
      in_part : (p : Bool × PartTree) → bare_part p ≡ Some x → AllByRecursion F (part_uses p) → F (Name x)
      in_part p is h = go p.0 p.1 is h
        where
          go : (b : Bool) (t : PartTree) → bare_part (b, t) ≡ Some x → AllByRecursion F (part_uses (b, t)) → F (Name x)
          go true (part.Number m) is h = cc
          go true (part.Times m y) is h = cc
          go true (part.Name y) is h = cc
          go true part.Null is h = cc
          go false (part.Number m) is h = cc
          go false (part.Times m y) is h = cc
          go false (part.Name y) is h = subst (λ z. F (Name z)) (some_eq y x is) h.0
          go false part.Null is h = cc

      in_parts : (ps : List (Bool × PartTree)) → bare_parts ps ≡ Some x → AllByRecursion F (flat_map part_uses ps) → F (Name x)
      in_parts [] is h = cc
      in_parts (p ∷ []) is h = in_part p is (split_all F (part_uses p) [] h).0
      in_parts (p ∷ q ∷ ps) is h = cc

      of : (k : ExprKind) → bare_parts (parts_of k) ≡ Some x → AllByRecursion F (names_in k) → F (Name x)
      of (expr.Sum parts) is h = in_parts parts is h
      of k is h = cc

  pub placed_fits : (p n : ℕ) (e : ExprTree) → count ≤ n → AllByRecursion F (number_uses e) → IsPlaced p n (placed scope e n)
  placed_fits p n e enough h = of (bare e) refl
    where
      of : (o : Option Ident) → bare e ≡ o → IsPlaced p n (placed_by scope e n o)
      of None is = record {
        slots = omega arith;
        slot = (omega arith, le_refl (suc n));
        code = λ k long s lt. (((omega arith, s), term_fits scope k (omega arith) e h, omega arith), tt);
      }
      of (Some x) is = record {
        slots = le_refl n;
        slot = slot_fits scope n enough x (bare_there e x is h.1);
        code = λ k long s lt. tt;
      }

  all_from : (p n : ℕ) (es : List ExprTree) (done : PlacedAll) → count ≤ n → ArePlaced p n done → AllByRecursion F (flat_map number_uses es) →
      ArePlaced p n (fold (next_placed scope) done es) × (length (fold (next_placed scope) done es).args ≡ length done.args + length es)
  all_from p n [] done enough h g = (h, omega arith)
  all_from p n (e ∷ es) done enough h g =
      let parts = split_all F (number_uses e) (flat_map number_uses es) g in
      let s = h.slots in
      let more = beside_fits scope.defs program gives scope p n done (placed scope e done.slots) h (placed_fits (p + length done.code) done.slots e (omega arith) parts.0) in
      let rest = all_from p n es (next_placed scope done e) enough more parts.1 in
      let total = length-append done.args ((placed scope e done.slots).slot ∷ []) in
      let long = rest.1 in
      (rest.0, omega arith)

  all_fit : (p n : ℕ) (es : List ExprTree) → count ≤ n → AllByRecursion F (flat_map number_uses es) → ArePlaced p n (all_placed scope es n) × (length (all_placed scope es n).args ≡ length es)
  all_fit p n es enough h =
      let all = all_from p n es (record { code = []; slots = n; args = [] }) enough (record { slots = le_refl n; args = λ k s. All-nil (IsUpTo k); code = λ k long s lt. tt }) h in
      let long = all.1 in
      (all.0, omega arith)

  -- ---- statements

  pub call_fits : (p n : ℕ) (to : Option ℕ) (c : CallTree) → count ≤ n → AllByRecursion F (call_uses c) →
      ((m : MethodTree) → method_named scope c.name.text ≡ Some m → (k : ℕ) → n ≤ k → TakesFit k (is_some m.result) to) → Segment p n (call scope to c n)
  call_fits p n to c enough h takes =
      let all = all_fit p n c.args enough h.1 in
      let used = h.0 in
      let callee = calls c.name.text used.0 used.1 in
      let a = all_placed scope c.args n in
      let s = all.0.slots in
      last_fits scope.defs program gives p n a.code a.slots (Call to (method_number scope c.name.text) a.args) true s all.0.code (λ k long t next. (
        callee.number,
        all.0.args k t,
        all.1 ∙ sym used.2 ∙ sym callee.params,
        subst (λ b. TakesFit k b to) (sym callee.result) (takes used.0 used.1 k (omega arith)),
        subst (λ rs. AreApart a.args rs) (sym callee.refs) tt,
        next refl,
      ))

  new_fits : (p n to : ℕ) (x : Ident) (args : List ExprTree) → count ≤ n → IsUpTo count to → F (uses.New x (length args)) → AllByRecursion F (flat_map number_uses args) → Segment p n (new_node scope to x args n)
  new_fits p n to x args enough there used h =
      let all = all_fit p n args enough h in
      let a = all_placed scope args n in
      let s = all.0.slots in
      let f = first_at (λ (d : NodeDef). bytes_eq d.name x.text) scope.defs.nodes used.0 used.1 in
      let fields : HasFields scope.defs (node_number scope.defs x.text) (length args) = ap (λ k. option_map (λ (d : NodeDef). length d.fields) (node_at scope.defs k)) f.is ∙ ap (option_map (λ (d : NodeDef). length d.fields)) f.got ∙ ap Some used.2 in
      last_fits scope.defs program gives p n a.code a.slots (New to (node_number scope.defs x.text) a.args) true s all.0.code (λ k long t next. (
        up count k to there (omega arith),
        all.0.args k t,
        fields ∙ ap Some (sym all.1),
        next refl,
      ))

  load_fits : (p n to : ℕ) (x f : Ident) → count ≤ n → IsUpTo count to → F (Name x) → Segment p n (load scope to x f n)
  load_fits p n to x f enough there used = of (field_found scope x f) refl
    where
      of : (o : Option Field) → field_found scope x f ≡ o → Segment p n (load_by to (slot_of scope x.text) n o)
      of None is = nothing_fits scope.defs program gives p n
      of (Some g) is = one_fits scope.defs program gives p n (Get to (slot_of scope x.text) g.node g.number) true (λ k long s next. (
        up count k to there (omega arith),
        slot_fits scope k (omega arith) x used,
        field_there scope.defs (kind_of scope x.text) f.text g is,
        next refl,
      ))

  pub value_fits : (p n to : ℕ) (v : ValueTree) → count ≤ n → IsUpTo count to → AllByRecursion F (value_uses v) → Gives scope v → Segment p n (value scope to v n)
  value_fits p n to (value_of.New at x args) enough there h g = new_fits p n to x args enough there h.0 h.1
  value_fits p n to (value_of.Call c) enough there h g = call_fits p n (Some to) c enough h (λ m is k s. (up count k to there (omega arith), g m is))
  value_fits p n to (value_of.Load x f) enough there h g = load_fits p n to x f enough there h.0
  value_fits p n to (value_of.Value e) enough there h g = one_fits scope.defs program gives p n (Assign to (term_of scope e)) true (λ k long s next. (up count k to there (omega arith), term_fits scope k (omega arith) e h, next refl))

  pub value_ends : (to n : ℕ) (v : ValueTree) → (value scope to v n).ends ≡ true
  value_ends to n (value_of.New at x args) = refl
  value_ends to n (value_of.Call c) = refl
  value_ends to n (value_of.Load x f) = of (field_found scope x f)
    where
      of : (o : Option Field) → (load_by to (slot_of scope x.text) n o).ends ≡ true
      of None = refl
      of (Some g) = refl
  value_ends to n (value_of.Value e) = refl

  pub store_fits : (p n : ℕ) (x f : Ident) (e : ExprTree) → count ≤ n → F (Name x) → AllByRecursion F (number_uses e) → Segment p n (store scope x f e n)
  store_fits p n x f e enough used h = of (field_found scope x f) refl
    where
      of : (o : Option Field) → field_found scope x f ≡ o → Segment p n (store_by (slot_of scope x.text) (placed scope e n) n o)
      of None is = nothing_fits scope.defs program gives p n
      of (Some g) is =
          let a = placed scope e n in
          let fit = placed_fits p n e enough h in
          let s = fit.slots in
          last_fits scope.defs program gives p n a.code a.slots (Set (slot_of scope x.text) g.node g.number a.slot) true s fit.code (λ k long t next. (
            slot_fits scope k (omega arith) x used,
            up a.slots k a.slot fit.slot t,
            field_there scope.defs (kind_of scope x.text) f.text g is,
            next refl,
          ))

  pub store_ends : (n : ℕ) (x f : Ident) (e : ExprTree) → (store scope x f e n).ends ≡ true
  store_ends n x f e = of (field_found scope x f)
    where
      of : (o : Option Field) → (store_by (slot_of scope x.text) (placed scope e n) n o).ends ≡ true
      of None = refl
      of (Some g) = refl

  pub give_fits : (p n : ℕ) (o : Option ExprTree) → count ≤ n → AllByRecursion F (uses.optional_uses number_uses o) → GivesBack scope.result o → Segment p n (give scope o n)
  give_fits p n o enough h g = of scope.result refl o h g
    where
      of : (want : Option VarType) → scope.result ≡ want → (o : Option ExprTree) → AllByRecursion F (uses.optional_uses number_uses o) → GivesBack want o → Segment p n (give scope o n)
      of None is None h g = one_fits scope.defs program gives p n (Return None) false (λ k long s next. ap is_some is)
      of None is (Some e) h g = absurd g
      of (Some want) is None h g = absurd g
      of (Some want) is (Some e) h g =
          let a = placed scope e n in
          let fit = placed_fits p n e enough h in
          last_fits scope.defs program gives p n a.code a.slots (Return (Some a.slot)) false fit.slots fit.code (λ k long t next. (up a.slots k a.slot fit.slot t, ap is_some is))

  pub give_ends : (n : ℕ) (o : Option ExprTree) → (give scope o n).ends ≡ false
  give_ends n None = refl
  give_ends n (Some e) = refl
