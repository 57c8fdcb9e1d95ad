-- Frames and stacks that fit, and changes of them.
use Rattle.std.proofs.Common.{ℕ, zero, suc, ℤ, ◌≡◌, ◌==◌, ◌-◌, ◌<◌, ◌≤◌, inl, inr, true, false, IsTrue, List, [], ◌∷◌, length, map, slice_set, slice_index_or, Option, Some, None, refl, sym, ◌∙◌, ap, arith, if◌then◌else◌}
use Rattle.std.specs.List.{All}
use Rattle.std.proofs.lemmas.Bool.Decides.{nat_tests}
use Rattle.std.proofs.lemmas.List.Elements.{All-head, All-tail}
use Rattle.hs_pure.specs.declared.var.Var.{Var}
use Rattle.hs_pure.specs.Stack.{Value, Stack, same, with_value}
use Rattle.hs_heap.specs.declared.formula.Formula.{Formula}
use Rattle.hs_heap.specs.declared.definitions.Defs.{Defs}
use Rattle.hs_heap.specs.Heap.{Heap}
use Rattle.hs_heap.specs.Meaning.{Meaning, FormulaHolds}
use Rattle.hs_heap.specs.Variables.{is_free_in_formula}
use Rattle.hs_heap.proofs.Booleans.{bool_cases}
use Rattle.hs_heap.proofs.Stacks.{same_false, with_value-other}
use Rattle.hs_heap.proofs.Free.{cases_agree}
use Rattle.hs_heap.proofs.Satisfied.{satisfaction_is_of_free}
use Rattle.hs_goal.specs.Shape.{SideFits}
use Rattle.hs_rules.proofs.Fits.{cases_below}
use Rattle.hs_core.specs.declared.program.Pair.{Pair}
use Rattle.hs_core.specs.declared.program.Method.{Method}
use Rattle.hs_core.specs.Machine.{Slots, Ending, Faulted, Finished, updated}
use Rattle.hs_core.specs.Sound.{IsUpTo}
use Rattle.hs_program_rules.specs.States.{Held, held_in, variable_in, IsHeld}
use Rattle.hs_program_rules.specs.Parts.{with_held, variables_in, result_var, last_vars}
use Rattle.hs_program_rules.specs.Safe.{SlotsFit, with_numbers, with_result, stack_after, IsGoodEnd}

-- ---- stacks

-- s and t agree on the variables with numbers below n
abbrev pub AgreeBelow : ℕ → Stack → Stack → Type 0
AgreeBelow n s t = (v : Var) → v.number < n → s v ≡ t v

pub agrees_itself : (n : ℕ) (s : Stack) → AgreeBelow n s s
agrees_itself n s v less = refl

pub satisfied_below : (x : Meaning) (defs : Defs) (n : ℕ) (s t : Stack) (h : Heap) (f : Formula) → AgreeBelow n s t → SideFits defs n f → FormulaHolds x s h f → FormulaHolds x t h f
satisfied_below x defs n s t h f agree fit p = cases_agree x f.cases s t h (λ v e. agree v (cases_below defs n f.cases fit v e)) p

-- a new value above what is below n
pub agree_with_value : (n : ℕ) (s : Stack) (u : Var) (y : Value) → n ≤ u.number → AgreeBelow n s (with_value u y s)
agree_with_value n s u y le v less =
    let other = same_false u v (λ e. let is = ap (λ (w : Var). w.number) e in absurd (omega arith)) in
    sym (with_value-other u y s v other)

-- ---- what slots hold

item_set : {A : Type 0} (xs : List A) (i j : ℕ) (x d : A) → i < length xs → slice_index_or (slice_set xs i x) j d ≡ (if j == i then x else slice_index_or xs j d)
item_set [] i j x d less = absurd (omega arith)
item_set (y ∷ ys) zero zero x d less = refl
item_set (y ∷ ys) zero (suc j) x d less = let f : (suc j == zero) ≡ false = grind (arith, nat_tests) in rw f
item_set (y ∷ ys) (suc i) zero x d less = let f : (zero == suc i) ≡ false = grind (arith, nat_tests) in rw f
item_set (y ∷ ys) (suc i) (suc j) x d less = elim (bool_cases (j == i)) [
  | inl t ↦ let u : (suc j == suc i) ≡ true = grind (arith, nat_tests) in rw u (item_set ys i j x d (omega arith) ∙ rw t)
  | inr f ↦ let u : (suc j == suc i) ≡ false = grind (arith, nat_tests) in rw u (item_set ys i j x d (omega arith) ∙ rw f)
]

held_set_at : (held : Held) (i j : ℕ) (v : Var) → i < length held → held_in (slice_set held i (Some v)) j ≡ (if j == suc i then Some v else held_in held j)
held_set_at held i zero v less = let f : (zero == suc i) ≡ false = grind (arith, nat_tests) in rw f
held_set_at held i (suc j) v less = elim (bool_cases (j == i)) [
  | inl t ↦ let u : (suc j == suc i) ≡ true = grind (arith, nat_tests) in rw u (item_set held i j (Some v) None less ∙ rw t)
  | inr f ↦ let u : (suc j == suc i) ≡ false = grind (arith, nat_tests) in rw u (item_set held i j (Some v) None less ∙ rw f)
]

-- one slot holds a variable, and the others what they held
pub held_set : (held : Held) (k j : ℕ) (v : Var) → IsUpTo (length held) k → held_in (with_held held k v) j ≡ (if j == k then Some v else held_in held j)
held_set held zero j v (low, high) = absurd (omega arith)
held_set held (suc i) j v (low, high) = let e : suc i - 1 ≡ i = omega arith in rw e (held_set_at held i j v (omega arith))

some_injective : (v w : Var) → Some v ≡ Some w → v ≡ w
some_injective v w e = cc

pub SlotsFit-agrees : (n : ℕ) (held : Held) (s t : Stack) (slots : Slots) → AgreeBelow n s t → ((k : ℕ) (v : Var) → held_in held k ≡ Some v → v.number < n) → SlotsFit held s slots → SlotsFit held t slots
SlotsFit-agrees n held s t slots agree low fit k v e = fit k v e ∙ ap (λ (y : Value). y.number) (agree v (low k v e))

-- a slot gets a variable and its value
pub SlotsFit-set : (held : Held) (t : Stack) (slots : Slots) (to : ℕ) (u : Var) (a : ℤ) → IsUpTo (length held) to → SlotsFit held t slots → a ≡ (t u).number →
    SlotsFit (with_held held to u) t (updated slots to a)
SlotsFit-set held t slots to u a there fit is k v e = elim (bool_cases (k == to)) [
  | inl same ↦
      let f : Some u ≡ Some v = sym (held_set held to k u there ∙ rw same) ∙ e in
      rw same (is ∙ ap (λ (w : Var). (t w).number) (some_injective u v f))
  | inr other ↦
      let f : held_in held k ≡ Some v = sym (held_set held to k u there ∙ rw other) ∙ e in
      rw other (fit k v f)
]

pub held_value : (held : Held) (t : Stack) (slots : Slots) (k : ℕ) → SlotsFit held t slots → IsHeld held k → (t (variable_in held k)).number ≡ slots k
held_value held t slots k fit is = sym (fit k (variable_in held k) is)

-- the number that a variable is worth
abbrev pub number_at : Stack → Var → ℤ
number_at t v = (t v).number

pub held_values : (held : Held) (t : Stack) (slots : Slots) (ks : List ℕ) → SlotsFit held t slots → All (IsHeld held) ks → map (number_at t) (variables_in held ks) ≡ map slots ks
held_values held t slots [] fit all = refl
held_values held t slots (k ∷ ks) fit all =
    let first = held_value held t slots k fit (All-head (IsHeld held) k ks all) in
    let rest = held_values held t slots ks fit (All-tail (IsHeld held) k ks all) in
    cc

-- ---- ends

with_numbers-agrees : (vs : List Var) (ns : List ℤ) (s t : Stack) (w : Var) → s w ≡ t w → with_numbers vs ns s w ≡ with_numbers vs ns t w
with_numbers-agrees [] ns s t w e = e
with_numbers-agrees (v ∷ vs) [] s t w e = e
with_numbers-agrees (v ∷ vs) (n ∷ ns) s t w e = elim (bool_cases (same v w)) [
  | inl is ↦ rw is refl
  | inr isnt ↦ rw isnt (with_numbers-agrees vs ns s t w e)
]

with_result-agrees : (v : Var) (o : Option ℤ) (s t : Stack) (w : Var) → s w ≡ t w → with_result v o s w ≡ with_result v o t w
with_result-agrees v None s t w e = e
with_result-agrees v (Some n) s t w e = elim (bool_cases (same v w)) [
  | inl is ↦ rw is refl
  | inr isnt ↦ rw isnt e
]

-- an end is as good at a stack that agrees below the numbers of the postcondition
pub good_end_agrees : (defs : Defs) (m : Method) (p : Pair) (n : ℕ) (s t : Stack) (rest : Heap) (e : Ending) (now : Heap) → ((v : Var) → IsTrue (is_free_in_formula v p.post) → v.number < n) →
    AgreeBelow n s t → IsGoodEnd defs m p t rest e now → IsGoodEnd defs m p s rest e now
good_end_agrees defs m p n s t rest (Faulted q) now low agree good = good
good_end_agrees defs m p n s t rest (Finished v) now low agree good = record {
  own = good.own;
  parts = good.parts;
  part = good.part;
  other = good.other;
  inner = good.inner;
  is_heap = good.is_heap;
  arity = good.arity;
  post = (
    good.post.0,
    (satisfaction_is_of_free defs good.post.0 p.post (stack_after m v t) (stack_after m v s) good.part
        (λ w free. with_result-agrees (result_var m) v.result (with_numbers (last_vars m) v.refs t) (with_numbers (last_vars m) v.refs s) w
        (with_numbers-agrees (last_vars m) v.refs t s w (sym (agree w (low w free)))))).0 good.post.1,
  );
}
