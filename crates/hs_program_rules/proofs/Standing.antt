-- What well formed states of sound programs give.
use Rattle.std.proofs.Common.{ℕ, zero, suc, ℤ, pos, ◌≡◌, ◌<◌, inl, inr, false, List, [], ◌∷◌, length, map, slice_index_or, Some, refl, sym, ◌∙◌, arith}
use Rattle.std.specs.List.{All}
use Rattle.std.proofs.lemmas.List.Elements.{All-nil, All-cons, All-head, All-tail}
use Rattle.hs_pure.specs.declared.var.Var.{Var}
use Rattle.hs_pure.specs.Stack.{Stack}
use Rattle.hs_heap.specs.declared.definitions.Defs.{Defs}
use Rattle.hs_heap.specs.Meaning.{argument_at, field_value, is_in}
use Rattle.hs_heap.specs.Sound.{kinds}
use Rattle.hs_heap.proofs.Booleans.{bool_cases}
use Rattle.hs_core.specs.declared.instr.Instr.{Instr}
use Rattle.hs_core.specs.declared.program.Method.{Method}
use Rattle.hs_core.specs.declared.program.Pair.{Pair}
use Rattle.hs_core.specs.declared.program.Program.{Program}
use Rattle.hs_core.specs.declared.state.At.{At}
use Rattle.hs_core.specs.Machine.{Slots, numbered}
use Rattle.hs_core.specs.Sound.{IsUpTo, InstrFits, IsSoundProgram, vars_from}
use Rattle.hs_core.proofs.GivenVars.{in_from}
use Rattle.hs_program_rules.specs.States.{held_in, variable_in, number_var, IsHeld, IsOwn, StateFits, method_at, pair_at, instruction_at}
use Rattle.hs_program_rules.specs.Parts.{variables_in}
use Rattle.hs_program_rules.specs.Safe.{SlotsFit}
use Rattle.hs_program_rules.proofs.Fitting.{held_value}

pub map_length : {A B : Type 0} (f : A → B) (xs : List A) → length (map f xs) ≡ length xs
map_length f [] = refl
map_length f (x ∷ xs) = let e = map_length f xs in omega arith

-- ---- number variables from a number on

pub from_length : (f n : ℕ) → length (vars_from f n) ≡ n
from_length f zero = refl
from_length f (suc n) = let e = from_length (suc f) n in omega arith

pub from_out : (f n : ℕ) (v : Var) → v.number < f → is_in v (vars_from f n) ≡ false
from_out f n v less = elim (bool_cases (is_in v (vars_from f n))) [
  | inl is ↦ let low = (in_from v f n is).1 in absurd (omega arith)
  | inr isnt ↦ isnt
]

abbrev pub AreNumbers : List Var → Type 0
AreNumbers vs = All (λ (v : Var). v.bag ≡ false) vs

pub from_numbers : (f n : ℕ) → AreNumbers (vars_from f n)
from_numbers f zero = All-nil (λ (v : Var). v.bag ≡ false)
from_numbers f (suc n) = All-cons (λ (v : Var). v.bag ≡ false) (number_var f) (vars_from (suc f) n) refl (from_numbers (suc f) n)

-- lists of number variables of one length have the same kinds
pub number_kinds : (vs ws : List Var) → AreNumbers vs → AreNumbers ws → length vs ≡ length ws → kinds vs ≡ kinds ws
number_kinds [] [] a b e = refl
number_kinds [] (w ∷ ws) a b e = absurd (omega arith)
number_kinds (v ∷ vs) [] a b e = absurd (omega arith)
number_kinds (v ∷ vs) (w ∷ ws) a b e =
    let first : v.bag ≡ w.bag = All-head (λ (v : Var). v.bag ≡ false) v vs a ∙ sym (All-head (λ (v : Var). v.bag ≡ false) w ws b) in
    let rest = number_kinds vs ws (All-tail (λ (v : Var). v.bag ≡ false) v vs a) (All-tail (λ (v : Var). v.bag ≡ false) w ws b) (omega arith) in
    λ i. first i ∷ rest i

-- ---- values of fields

abbrev pub field_values : Stack → List Var → List ℤ
field_values t vs = map field_value (map (argument_at t) vs)

pub field_number : (t : Stack) (v : Var) → v.bag ≡ false → field_value (argument_at t v) ≡ (t v).number
field_number t v e = rw e refl

item_value : (t : Stack) (vs : List Var) (i : ℕ) → i < length vs → AreNumbers vs → slice_index_or (field_values t vs) i (pos 0) ≡ (t (slice_index_or vs i (number_var 0))).number
item_value t [] i less all = absurd (omega arith)
item_value t (v ∷ vs) zero less all = field_number t v (All-head (λ (v : Var). v.bag ≡ false) v vs all)
item_value t (v ∷ vs) (suc i) less all = item_value t vs i (omega arith) (All-tail (λ (v : Var). v.bag ≡ false) v vs all)

-- the value of a field
pub numbered_value : (t : Stack) (vs : List Var) (k : ℕ) → IsUpTo (length vs) k → AreNumbers vs → numbered (field_values t vs) k (pos 0) ≡ (t (numbered vs k (number_var 0))).number
numbered_value t vs zero (low, high) all = absurd (omega arith)
numbered_value t vs (suc i) (low, high) all = item_value t vs i (omega arith) all

-- ---- what slots hold

pub own_number : (m : Method) (p : Pair) (v : Var) → IsOwn m p v → v.bag ≡ false
own_number m p v (inl is) = is.0
own_number m p v (inr is) = is.0

module _ (defs : Defs) (program : Program) (at : At) (wf : StateFits defs program at) where
  pub held_low : (k : ℕ) (v : Var) → held_in at.state.slots k ≡ Some v → v.number < at.state.next
  held_low k v e = (wf.held k v e).1

  pub held_number : (k : ℕ) (v : Var) → held_in at.state.slots k ≡ Some v → v.bag ≡ false
  held_number k v e = own_number (method_at program at) (pair_at program at) v (wf.held k v e).0

  pub slot_there : (k : ℕ) → IsUpTo (method_at program at).slots k → IsUpTo (length at.state.slots) k
  slot_there k (low, high) = let e = wf.slots in (low, omega arith)

  pub instr_fits : IsSoundProgram defs program → (i : Instr) → instruction_at program at ≡ Some i → InstrFits defs program (method_at program at) at.point i
  instr_fits sound i is = (sound.methods at.method wf.method).code at.point i is

  pub held_numbers : (ks : List ℕ) → All (IsHeld at.state.slots) ks → AreNumbers (variables_in at.state.slots ks)
  held_numbers [] all = All-nil (λ (v : Var). v.bag ≡ false)
  held_numbers (k ∷ ks) all =
      All-cons (λ (v : Var). v.bag ≡ false) (variable_in at.state.slots k) (variables_in at.state.slots ks)
      (held_number k (variable_in at.state.slots k) (All-head (IsHeld at.state.slots) k ks all)) (held_numbers ks (All-tail (IsHeld at.state.slots) k ks all))

  pub held_below : (ks : List ℕ) → All (IsHeld at.state.slots) ks → All (λ (v : Var). v.number < at.state.next) (variables_in at.state.slots ks)
  held_below [] all = All-nil (λ (v : Var). v.number < at.state.next)
  held_below (k ∷ ks) all =
      All-cons (λ (v : Var). v.number < at.state.next) (variable_in at.state.slots k) (variables_in at.state.slots ks)
      (held_low k (variable_in at.state.slots k) (All-head (IsHeld at.state.slots) k ks all)) (held_below ks (All-tail (IsHeld at.state.slots) k ks all))

  -- the fields of a node of what slots hold are the slots' values
  pub held_fields : (t : Stack) (slots : Slots) (ks : List ℕ) → SlotsFit at.state.slots t slots → All (IsHeld at.state.slots) ks → field_values t (variables_in at.state.slots ks) ≡ map slots ks
  held_fields t slots [] fit all = refl
  held_fields t slots (k ∷ ks) fit all =
      let is = All-head (IsHeld at.state.slots) k ks all in
      let first = field_number t (variable_in at.state.slots k) (held_number k (variable_in at.state.slots k) is) ∙ held_value at.state.slots t slots k fit is in
      let rest = held_fields t slots ks fit (All-tail (IsHeld at.state.slots) k ks all) in
      λ i. first i ∷ rest i
