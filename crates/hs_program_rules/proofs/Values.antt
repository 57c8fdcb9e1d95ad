-- Values of several variables, and of slots that hold them.
use Rattle.std.proofs.Common.{ℕ, zero, suc, ℤ, pos, ◌≡◌, ◌+◌, ◌-◌, ◌<◌, inl, inr, true, false, List, [], ◌∷◌, ◌++◌, length, map, replicate, slice_set, slice_index_or, Option, Some, None, refl, sym, ◌∙◌, ap, arith}
use Rattle.std.specs.List.{All}
use Rattle.std.proofs.lemmas.List.Elements.{All-nil, All-cons, All-head, All-tail}
use Rattle.hs_pure.specs.declared.var.Var.{Var}
use Rattle.hs_pure.specs.Stack.{Stack, Value, same, with_value, number_value}
use Rattle.hs_pure.proofs.Vars.{or_left, or_right}
use Rattle.hs_heap.specs.Meaning.{is_in}
use Rattle.hs_heap.specs.Instance.{put_arguments}
use Rattle.hs_heap.proofs.Booleans.{bool_cases, or_false_left, or_false_right, clash}
use Rattle.hs_heap.proofs.Stacks.{same_true, same_itself, same_is, same_false, same_turned, with_value-same, with_value-other}
use Rattle.hs_heap.proofs.Renaming.{before}
use Rattle.hs_core.specs.declared.program.Method.{Method}
use Rattle.hs_core.specs.Machine.{Slots, numbered, all_updated, picked}
use Rattle.hs_core.specs.Sound.{IsUpTo, AreRising, vars_from, param_vars}
use Rattle.hs_program_rules.specs.States.{Held, held_in, number_var, entry_held}
use Rattle.hs_program_rules.specs.Parts.{all_held}
use Rattle.hs_program_rules.specs.Safe.{SlotsFit, with_numbers, with_result}
use Rattle.hs_program_rules.proofs.Fitting.{SlotsFit-set, number_at}
use Rattle.hs_program_rules.proofs.Pairs.{numbered_all}

-- ---- values of variables

pub with_numbers-out : (vs : List Var) (ns : List ℤ) (s : Stack) (v : Var) → is_in v vs ≡ false → with_numbers vs ns s v ≡ s v
with_numbers-out [] ns s v e = refl
with_numbers-out (w ∷ vs) [] s v e = refl
with_numbers-out (w ∷ vs) (n ∷ ns) s v e =
    with_value-other w (number_value n) (with_numbers vs ns s) v (same_turned w v (or_false_left (same v w) (is_in v vs) e))
    ∙ with_numbers-out vs ns s v (or_false_right (same v w) (is_in v vs) e)

pub with_result-out : (u : Var) (o : Option ℤ) (s : Stack) (v : Var) → same u v ≡ false → with_result u o s v ≡ s v
with_result-out u None s v e = refl
with_result-out u (Some n) s v e = with_value-other u (number_value n) s v e

value_there : (u : Var) (y : Value) (s : Stack) (v : Var) → same u v ≡ true → with_value u y s v ≡ y
value_there u y s v e = rw e refl

-- a renaming that takes no other to one of these
pub with_numbers-renamed : (ρ : Var → Var) (vs : List Var) (ns : List ℤ) (t : Stack) (y : Var) → ((q : Var) → is_in q vs ≡ true → ρ y ≡ ρ q → y ≡ q) →
    with_numbers (map ρ vs) ns t (ρ y) ≡ with_numbers vs ns (before ρ t) y
with_numbers-renamed ρ [] ns t y apart = refl
with_numbers-renamed ρ (q ∷ vs) [] t y apart = refl
with_numbers-renamed ρ (q ∷ vs) (n ∷ ns) t y apart = elim (bool_cases (same q y)) [
  | inl is ↦
      let also : same (ρ q) (ρ y) ≡ true = same_is (ρ q) (ρ y) (ap ρ (same_true q y is)) in
      value_there (ρ q) (number_value n) (with_numbers (map ρ vs) ns t) (ρ y) also ∙ sym (value_there q (number_value n) (with_numbers vs ns (before ρ t)) y is)
  | inr isnt ↦
      let other : same (ρ q) (ρ y) ≡ false = same_false (ρ q) (ρ y) (λ e. clash (same_is q y (sym (apart q (or_left (same q q) (is_in q vs) (same_itself q)) (sym e)))) isnt) in
      with_value-other (ρ q) (number_value n) (with_numbers (map ρ vs) ns t) (ρ y) other
      ∙ with_numbers-renamed ρ vs ns t y (λ z i. apart z (or_right (same z q) (is_in z vs) i))
      ∙ sym (with_value-other q (number_value n) (with_numbers vs ns (before ρ t)) y isnt)
]

pub with_result-renamed : (ρ : Var → Var) (u : Var) (o : Option ℤ) (f g : Stack) (y : Var) → (ρ y ≡ ρ u → y ≡ u) → f (ρ y) ≡ g y → with_result (ρ u) o f (ρ y) ≡ with_result u o g y
with_result-renamed ρ u None f g y apart e = e
with_result-renamed ρ u (Some n) f g y apart e = elim (bool_cases (same u y)) [
  | inl is ↦
      let also : same (ρ u) (ρ y) ≡ true = same_is (ρ u) (ρ y) (ap ρ (same_true u y is)) in
      value_there (ρ u) (number_value n) f (ρ y) also ∙ sym (value_there u (number_value n) g y is)
  | inr isnt ↦
      let other : same (ρ u) (ρ y) ≡ false = same_false (ρ u) (ρ y) (λ k. clash (same_is u y (sym (apart (sym k)))) isnt) in
      with_value-other (ρ u) (number_value n) f (ρ y) other ∙ e ∙ sym (with_value-other u (number_value n) g y isnt)
]

map_other : (g : Stack) (k : ℕ) (y : Value) (from count : ℕ) → k < from → map (number_at (with_value (number_var k) y g)) (vars_from from count) ≡ map (number_at g) (vars_from from count)
map_other g k y from zero less = refl
map_other g k y from (suc count) less =
    let apart : same (number_var k) (number_var from) ≡ false = same_false (number_var k) (number_var from) (λ e. let is : k ≡ from = ap (λ (w : Var). w.number) e in absurd (omega arith)) in
    let first : number_at (with_value (number_var k) y g) (number_var from) ≡ number_at g (number_var from) = ap (λ (z : Value). z.number) (with_value-other (number_var k) y g (number_var from) apart) in
    let rest = map_other g k y (suc from) count (omega arith) in
    λ i. first i ∷ rest i

-- different variables keep the numbers that they were given
pub numbers_values : (from count : ℕ) (ns : List ℤ) (s : Stack) → length ns ≡ count → map (number_at (with_numbers (vars_from from count) ns s)) (vars_from from count) ≡ ns
numbers_values from zero [] s e = refl
numbers_values from zero (n ∷ ns) s e = absurd (omega arith)
numbers_values from (suc count) [] s e = absurd (omega arith)
numbers_values from (suc count) (n ∷ ns) s e =
    let g = with_numbers (vars_from (suc from) count) ns s in
    let first : number_at (with_value (number_var from) (number_value n) g) (number_var from) ≡ n = ap (λ (z : Value). z.number) (with_value-same (number_var from) (number_value n) g) in
    let rest = map_other g from (number_value n) (suc from) count (omega arith) ∙ numbers_values (suc from) count ns s (omega arith) in
    λ i. first i ∷ rest i

pub map_same : (ρ : Var → Var) (f g : Stack) (vs : List Var) → ((y : Var) → is_in y vs ≡ true → f (ρ y) ≡ g y) → map (number_at f) (map ρ vs) ≡ map (number_at g) vs
map_same ρ f g [] each = refl
map_same ρ f g (v ∷ vs) each =
    let first = ap (λ (z : Value). z.number) (each v (or_left (same v v) (is_in v vs) (same_itself v))) in
    let rest = map_same ρ f g vs (λ y i. each y (or_right (same y v) (is_in y vs) i)) in
    λ i. first i ∷ rest i

-- ---- slots

length_set : {A : Type 0} (xs : List A) (i : ℕ) (a : A) → length (slice_set xs i a) ≡ length xs
length_set [] i a = refl
length_set (x ∷ xs) zero a = refl
length_set (x ∷ xs) (suc i) a = let e = length_set xs i a in omega arith

pub all_held-length : (held : Held) (ks : List ℕ) (us : List Var) → length (all_held held ks us) ≡ length held
all_held-length held [] us = refl
all_held-length held (k ∷ ks) [] = refl
all_held-length held (k ∷ ks) (u ∷ us) = length_set (all_held held ks us) (k - 1) (Some u) ∙ all_held-length held ks us

pub SlotsFit-all_held : (held : Held) (ks : List ℕ) (us : List Var) (ns : List ℤ) (w : Stack) (slots : Slots) → map (number_at w) us ≡ ns → All (IsUpTo (length held)) ks → SlotsFit held w slots →
    SlotsFit (all_held held ks us) w (all_updated ks ns slots)
SlotsFit-all_held held [] us ns w slots e there fit = fit
SlotsFit-all_held held (k ∷ ks) [] [] w slots e there fit = fit
SlotsFit-all_held held (k ∷ ks) [] (n ∷ ns) w slots e there fit = absurd (cc)
SlotsFit-all_held held (k ∷ ks) (u ∷ us) [] w slots e there fit = absurd (cc)
SlotsFit-all_held held (k ∷ ks) (u ∷ us) (n ∷ ns) w slots e there fit =
    let first : n ≡ (w u).number = cc in
    let rest : map (number_at w) us ≡ ns = cc in
    let size = all_held-length held ks us in
    let (low, high) = All-head (IsUpTo (length held)) k ks there in
    SlotsFit-set (all_held held ks us) w (all_updated ks ns slots) k u n (low, omega arith)
    (SlotsFit-all_held held ks us ns w slots rest (All-tail (IsUpTo (length held)) k ks there) fit) first

-- the argument slots of reference parameters are there
pub picked_there : (n count : ℕ) (args : List ℕ) (low : ℕ) (refs : List ℕ) → length args ≡ count → All (IsUpTo n) args → AreRising count low refs → All (IsUpTo n) (picked args refs)
picked_there n count args low [] size all rising = All-nil (IsUpTo n)
picked_there n count args low (k ∷ refs) size all (above, up, rising) =
    All-cons (IsUpTo n) (numbered args k 0) (picked args refs) (numbered_all (IsUpTo n) args k 0 (omega arith, omega arith) all) (picked_there n count args k refs size all rising)

-- ---- the start of a pair

entry_from : (from count : ℕ) (others : List (Option Var)) (i : ℕ) (v : Var) → ((j : ℕ) → slice_index_or others j None ≡ None) →
    slice_index_or (map (λ v. Some v) (vars_from from count) ++ others) i None ≡ Some v → (i < count) × (v ≡ number_var (from + i))
entry_from from zero others i v none e = absurd (let f = none i in cc)
entry_from from (suc count) others zero v none e =
    let same : number_var from ≡ v = cc in
    let at : from ≡ from + 0 = omega arith in
    (omega arith, sym same ∙ ap number_var at)
entry_from from (suc count) others (suc i) v none e =
    let (less, is) = entry_from (suc from) count others i v none e in
    let at : suc from + i ≡ from + suc i = omega arith in
    (omega arith, is ∙ ap number_var at)

abbrev no_var : Option Var
no_var = None

all_none : (count j : ℕ) → slice_index_or (replicate count no_var) j no_var ≡ no_var
all_none zero j = refl
all_none (suc count) zero = refl
all_none (suc count) (suc j) = all_none count j

-- slots of a start hold the parameters of their numbers
pub entry_holds : (m : Method) (k : ℕ) (v : Var) → held_in (entry_held m) k ≡ Some v → IsUpTo m.params k × (v ≡ number_var k)
entry_holds m zero v e = absurd (cc)
entry_holds m (suc i) v e =
    let (less, is) = entry_from 1 m.params (replicate (m.slots - m.params) None) i v (all_none (m.slots - m.params)) e in
    let at : 1 + i ≡ suc i = omega arith in
    ((omega arith, omega arith), is ∙ ap number_var at)

put_value : (from count : ℕ) (us : List Var) (ns : List ℤ) (e : Var → Var) (t : Stack) (i k : ℕ) → k ≡ from + i → length us ≡ count → i < count → map (number_at t) us ≡ ns →
    (t (put_arguments (vars_from from count) us e (number_var k))).number ≡ slice_index_or ns i (pos 0)
put_value from zero us ns e t i k at size less values = absurd (omega arith)
put_value from (suc count) [] ns e t i k at size less values = absurd (omega arith)
put_value from (suc count) (u ∷ us) [] e t i k at size less values = absurd (cc)
put_value from (suc count) (u ∷ us) (n ∷ ns) e t zero k at size less values =
    let is : from ≡ k = omega arith in
    let also : same (number_var from) (number_var k) ≡ true = same_is (number_var from) (number_var k) (ap number_var is) in
    let put : put_arguments (number_var from ∷ vars_from (suc from) count) (u ∷ us) e (number_var k) ≡ u = rw also refl in
    let first : (t u).number ≡ n = cc in
    ap (λ x. (t x).number) put ∙ first
put_value from (suc count) (u ∷ us) (n ∷ ns) e t (suc i) k at size less values =
    let other : same (number_var from) (number_var k) ≡ false = same_false (number_var from) (number_var k) (λ f. let is : from ≡ k = ap (λ (w : Var). w.number) f in absurd (omega arith)) in
    let put : put_arguments (number_var from ∷ vars_from (suc from) count) (u ∷ us) e (number_var k) ≡ put_arguments (vars_from (suc from) count) us e (number_var k) = rw other refl in
    let rest : map (number_at t) us ≡ ns = cc in
    ap (λ x. (t x).number) put ∙ put_value (suc from) count us ns e t i k (omega arith) (omega arith) (omega arith) rest

-- a parameter renamed and read is worth what its argument is
pub param_value : (m : Method) (us : List Var) (ns : List ℤ) (e : Var → Var) (t : Stack) (k : ℕ) → IsUpTo m.params k → length us ≡ m.params → map (number_at t) us ≡ ns →
    (t (put_arguments (param_vars m) us e (number_var k))).number ≡ numbered ns k (pos 0)
param_value m us ns e t zero (low, high) size values = absurd (omega arith)
param_value m us ns e t (suc i) (low, high) size values = put_value 1 m.params us ns e t i (suc i) (omega arith) size (omega arith) values
