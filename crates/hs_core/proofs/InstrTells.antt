-- What the tests of terms and instructions tell.
use Rattle.std.proofs.Common.{◌≡◌, ℕ, zero, suc, ◌+◌, ◌^◌, ◌<◌, Bool, true, not, ◌&&◌, ◌==◌, nat_lt, unsigned_abs, IsTrue, List, [], ◌∷◌, length, Option, Some, None, option_map, slice_get, refl, ap, subst, arith}
use Rattle.std.specs.List.{All, list_all}
use Rattle.std.proofs.lemmas.Bool.{and_parts, and_from}
use Rattle.hs_pure.specs.declared.lin.Lin.{Lin}
use Rattle.hs_pure.specs.Sums.{weight, LinIsLight, LinIsOrdered}
use Rattle.hs_heap.specs.declared.definitions.NodeDef.{NodeDef}
use Rattle.hs_heap.specs.declared.definitions.Defs.{Defs}
use Rattle.hs_heap.specs.Sound.{node_at}
use Rattle.hs_heap.specs.Tests.{rises_from, is_light, sum_fits, has_fields}
use Rattle.hs_heap.proofs.Tells.{Tells, tells, tells_both, tells_all, tells_not, tells_le, tells_lt, tells_eq, tells_different}
use Rattle.hs_heap.proofs.Parts.{rises_told}
use Rattle.hs_core.specs.declared.instr.Instr.{Instr}
use Rattle.hs_core.specs.declared.instr.Instr.TheVariants.{Assign, New, Get, Set, Branch, Jump, Call, Return}
use Rattle.hs_core.specs.declared.program.Method.{Method}
use Rattle.hs_core.specs.declared.program.Program.{Program}
use Rattle.hs_core.specs.Machine.{numbered, method_of}
use Rattle.hs_core.specs.Sound.{IsUpTo, IsSlot, TermFits, ConditionFits, HasFields, HasField, TakesFit, GivesFit, AreApart, GoesOn, IsForward, InstrFits}
use Rattle.hs_core.specs.Tests.{is_up_to, is_slot, condition_fits, goes_on, is_forward, has_field, takes_fit, gives_fit, are_not, are_apart, callee_fits, call_fits, instr_fits, code_fits}
use Rattle.hs_core.proofs.SimpleTells.{up_to_told, slot_told, condition_told}

term_told : (n : ℕ) (a : Lin) → Tells (sum_fits a (is_slot n)) (TermFits n a)
term_told n a = tells (sum_fits a (is_slot n)) (LinIsOrdered a × (LinIsLight a × All (λ t. IsSlot n t.0) a.terms)) (TermFits n a)
    (tells_both (rises_from 0 a.terms) (is_light a && list_all (λ t. is_slot n t.0) a.terms) (LinIsOrdered a) (LinIsLight a × All (λ t. IsSlot n t.0) a.terms) (rises_told 0 a.terms)
    (tells_both (is_light a) (list_all (λ t. is_slot n t.0) a.terms) (LinIsLight a) (All (λ t. IsSlot n t.0) a.terms) (tells_le (weight a.terms + unsigned_abs a.constant) (2 ^ 126)) (tells_all (λ t. is_slot n t.0) (λ t. IsSlot n t.0) (λ t. slot_told n t.0) a.terms)))
    (λ h. record { ordered = h.0; light = h.1.0; slots = h.1.1 })
    (λ h. (h.ordered, (h.light, h.slots)))

slots_told : (n : ℕ) (ks : List ℕ) → Tells (list_all (is_up_to n) ks) (All (IsUpTo n) ks)
slots_told n ks = tells_all (is_up_to n) (IsUpTo n) (up_to_told n) ks

on_told : (m : Method) (i : ℕ) → Tells (goes_on m i) (GoesOn m i)
on_told m i = tells_lt (suc i) (length m.code)

forward_told : (m : Method) (i target : ℕ) → Tells (is_forward m i target) (IsForward m i target)
forward_told m i target = tells_both (nat_lt i target) (nat_lt target (length m.code)) (i < target) (target < length m.code) (tells_lt i target) (tells_lt target (length m.code))

-- ---- data types

fields_told : (o : Option NodeDef) (n : ℕ) → Tells (has_fields o n) (option_map (λ (d : NodeDef). length d.fields) o ≡ Some n)
fields_told None n = (λ h. absurd cc, λ h. absurd cc)
fields_told (Some d) n = tells (length d.fields == n) (length d.fields ≡ n) (Some (length d.fields) ≡ Some n) (tells_eq (length d.fields) n) (λ e. ap (λ k. Some k) e) (λ e. cc)

field_told : (o : Option NodeDef) (field : ℕ) → Tells (has_field o field) ((n : ℕ) × (option_map (λ (d : NodeDef). length d.fields) o ≡ Some n) × IsUpTo n field)
field_told None field = (λ h. absurd cc, λ h. let e : None ≡ Some h.0 = h.1 in absurd cc)
field_told (Some d) field = (
  λ h. (length d.fields, refl, (up_to_told (length d.fields) field).0 h),
  λ h. let e : Some (length d.fields) ≡ Some h.0 = h.1 in let same : h.0 ≡ length d.fields = cc in (up_to_told (length d.fields) field).1 (subst (λ n. IsUpTo n field) same h.2),
)

-- ---- calls and returns

takes_told : (n : ℕ) (gives : Bool) (to : Option ℕ) → Tells (takes_fit n gives to) (TakesFit n gives to)
takes_told n gives None = (λ h. tt, λ h. refl)
takes_told n gives (Some k) = tells_both (is_up_to n k) gives (IsUpTo n k) (gives ≡ true) (up_to_told n k) (λ h. h, λ h. h)

gives_told : (n : ℕ) (gives : Bool) (from : Option ℕ) → Tells (gives_fit n gives from) (GivesFit n gives from)
gives_told n gives None = tells_not gives
gives_told n gives (Some k) = tells_both (is_up_to n k) gives (IsUpTo n k) (gives ≡ true) (up_to_told n k) (λ h. h, λ h. h)

apart_told : (args refs : List ℕ) → Tells (are_apart args refs) (AreApart args refs)
apart_told args [] = (λ h. tt, λ h. refl)
apart_told args (r ∷ refs) = tells_both (are_not args (numbered args r 0) refs) (are_apart args refs) (All (λ q. ¬ (numbered args q 0 ≡ numbered args r 0)) refs) (AreApart args refs)
    (tells_all (λ q. not (numbered args q 0 == numbered args r 0)) (λ q. ¬ (numbered args q 0 ≡ numbered args r 0)) (λ q. tells_different (numbered args q 0) (numbered args r 0)) refs) (apart_told args refs)

module _ (program : Program) (m : Method) (to : Option ℕ) (method : ℕ) (args : List ℕ) where
  abbrev callee : Method
  callee = method_of program method

  abbrev CallFits : Type 0
  CallFits = IsUpTo (length program.methods) method × (All (IsUpTo m.slots) args × ((length args ≡ callee.params) × (TakesFit m.slots callee.result to × AreApart args callee.refs)))

  call_told : Tells (call_fits program m to method args) CallFits
  call_told = tells_both (is_up_to (length program.methods) method) (callee_fits m callee to args) (IsUpTo (length program.methods) method) (All (IsUpTo m.slots) args × ((length args ≡ callee.params) × (TakesFit m.slots callee.result to × AreApart args callee.refs)))
      (up_to_told (length program.methods) method)
      (tells_both (list_all (is_up_to m.slots) args) ((length args == callee.params) && (takes_fit m.slots callee.result to && are_apart args callee.refs)) (All (IsUpTo m.slots) args) ((length args ≡ callee.params) × (TakesFit m.slots callee.result to × AreApart args callee.refs))
      (slots_told m.slots args)
      (tells_both (length args == callee.params) (takes_fit m.slots callee.result to && are_apart args callee.refs) (length args ≡ callee.params) (TakesFit m.slots callee.result to × AreApart args callee.refs) (tells_eq (length args) callee.params)
      (tells_both (takes_fit m.slots callee.result to) (are_apart args callee.refs) (TakesFit m.slots callee.result to) (AreApart args callee.refs) (takes_told m.slots callee.result to) (apart_told args callee.refs))))

-- ---- instructions

-- three and four tests in a row
three : (a b c : Bool) (A B C : Type 0) → Tells a A → Tells b B → Tells c C → Tells (a && (b && c)) (A × B × C)
three a b c A B C s t u = tells (a && (b && c)) (A × (B × C)) (A × B × C) (tells_both a (b && c) A (B × C) s (tells_both b c B C t u)) (λ h. (h.0, h.1.0, h.1.1)) (λ h. (h.0, (h.1, h.2)))

four : (a b c d : Bool) (A B C D : Type 0) → Tells a A → Tells b B → Tells c C → Tells d D → Tells (a && (b && (c && d))) (A × B × C × D)
four a b c d A B C D s t u w = tells (a && (b && (c && d))) (A × (B × C × D)) (A × B × C × D) (tells_both a (b && (c && d)) A (B × C × D) s (three b c d B C D t u w)) (λ h. (h.0, h.1.0, h.1.1, h.1.2)) (λ h. (h.0, (h.1, h.2, h.3)))

module _ (defs : Defs) (program : Program) (m : Method) where
  instr_told : (i : ℕ) (instr : Instr) → Tells (instr_fits defs program m i instr) (InstrFits defs program m i instr)
  instr_told i (Assign to term) = three (is_up_to m.slots to) (sum_fits term (is_slot m.slots)) (goes_on m i) (IsUpTo m.slots to) (TermFits m.slots term) (GoesOn m i) (up_to_told m.slots to) (term_told m.slots term) (on_told m i)
  instr_told i (New to kind args) = four (is_up_to m.slots to) (list_all (is_up_to m.slots) args) (has_fields (node_at defs kind) (length args)) (goes_on m i)
      (IsUpTo m.slots to) (All (IsUpTo m.slots) args) (HasFields defs kind (length args)) (GoesOn m i)
      (up_to_told m.slots to) (slots_told m.slots args) (fields_told (node_at defs kind) (length args)) (on_told m i)
  instr_told i (Get to at kind field) = four (is_up_to m.slots to) (is_up_to m.slots at) (has_field (node_at defs kind) field) (goes_on m i)
      (IsUpTo m.slots to) (IsUpTo m.slots at) (HasField defs kind field) (GoesOn m i)
      (up_to_told m.slots to) (up_to_told m.slots at) (field_told (node_at defs kind) field) (on_told m i)
  instr_told i (Set at kind field from) = four (is_up_to m.slots at) (is_up_to m.slots from) (has_field (node_at defs kind) field) (goes_on m i)
      (IsUpTo m.slots at) (IsUpTo m.slots from) (HasField defs kind field) (GoesOn m i)
      (up_to_told m.slots at) (up_to_told m.slots from) (field_told (node_at defs kind) field) (on_told m i)
  instr_told i (Branch condition other) = three (condition_fits m.slots condition) (goes_on m i) (is_forward m i other) (ConditionFits m.slots condition) (GoesOn m i) (IsForward m i other)
      (condition_told m.slots condition) (on_told m i) (forward_told m i other)
  instr_told i (Jump target) = forward_told m i target
  instr_told i (Call to method args) =
      let made : Tells (call_fits program m to method args && goes_on m i) (CallFits program m to method args × GoesOn m i) =
      tells_both (call_fits program m to method args) (goes_on m i) (CallFits program m to method args) (GoesOn m i) (call_told program m to method args) (on_told m i) in
      (λ h. let f = made.0 h in (f.0.0, f.0.1.0, f.0.1.1.0, f.0.1.1.1.0, f.0.1.1.1.1, f.1), λ f. made.1 ((f.0, (f.1, (f.2, (f.3, f.4)))), f.5))
  instr_told i (Return from) = gives_told m.slots m.result from

  -- the instructions from the point i on fit
  abbrev CodeFits : ℕ → List Instr → Type 0
  CodeFits i xs = (j p : ℕ) (instr : Instr) → slice_get xs j ≡ Some instr → p ≡ i + j → InstrFits defs program m p instr

  code_forth : (i : ℕ) (xs : List Instr) → IsTrue (code_fits defs program m i xs) → CodeFits i xs
  code_forth i [] h j p instr e is = absurd cc
  code_forth i (x ∷ xs) h zero p instr e is =
      let parts = and_parts (instr_fits defs program m i x) (code_fits defs program m (suc i) xs) h in
      let read : Some x ≡ Some instr = e in
      let same : x ≡ instr = cc in
      let at : i ≡ p = omega arith in
      subst (λ k. InstrFits defs program m k instr) at (subst (InstrFits defs program m i) same ((instr_told i x).0 parts.0))
  code_forth i (x ∷ xs) h (suc j) p instr e is =
      code_forth (suc i) xs (and_parts (instr_fits defs program m i x) (code_fits defs program m (suc i) xs) h).1 j p instr e (omega arith)

  code_back : (i : ℕ) (xs : List Instr) → CodeFits i xs → IsTrue (code_fits defs program m i xs)
  code_back i [] f = refl
  code_back i (x ∷ xs) f = and_from (instr_fits defs program m i x) (code_fits defs program m (suc i) xs)
      ((instr_told i x).1 (f zero i x refl (omega arith))) (code_back (suc i) xs (λ j p instr e is. f (suc j) p instr e (omega arith)))

  pub code_told : (xs : List Instr) → Tells (code_fits defs program m 0 xs) ((i : ℕ) (instr : Instr) → slice_get xs i ≡ Some instr → InstrFits defs program m i instr)
  code_told xs = (λ h i instr e. code_forth 0 xs h i i instr e (omega arith), λ f. code_back 0 xs (λ j p instr e is. let at : j ≡ p = omega arith in subst (λ k. InstrFits defs program m k instr) at (f j instr e)))
