-- The names of slots are different.
use Rattle.std.proofs.Common.{◌≡◌, ℕ, zero, suc, ◌+◌, ◌-◌, ◌<◌, ◌≤◌, ◌^◌, Bool, false, ◌||◌, List, [], ◌∷◌, Some, None, slice_get, take, if◌then◌else◌, refl, ap, ◌∙◌, arith, bytes_eq, decimal, inl, inr}
use Rattle.std.specs.List.{list_any}
use Rattle.std.proofs.lemmas.Bool.{cases_Bool}
use Rattle.std.proofs.lemmas.Fmt.{decimal_injective}
use Rattle.std.proofs.lemmas.Slice.Eq.{bytes_eq-Decides}
use Rattle.hs_print.specs.Variable.{has_name, name_here, source_name, unless_before, shown_name, or_numbered}
use Rattle.hs_core_text.specs.Slots.{slot_text, names_from, slot_names}
use Rattle.hs_core_text.specs.Laws.{SlotsPrintAsSlots}

tail_of : List ℕ → List ℕ
tail_of [] = []
tail_of (c ∷ cs) = cs

tail_same : {c d : ℕ} {cs ds : List ℕ} → c ∷ cs ≡ d ∷ ds → cs ≡ ds
unfolding tail_of
tail_same e = ap tail_of e

-- an earlier slot has another name
other_name : (t a : ℕ) → a < t → t < 2 ^ 32 → bytes_eq (slot_text t) (slot_text a) ≡ false
other_name t a lt small = elim (cases_Bool (bytes_eq (slot_text t) (slot_text a))) [
  | inl same ↦
      let e : decimal t ≡ decimal a = tail_same ((bytes_eq-Decides (slot_text t) (slot_text a)).0 same) in
      absurd (let is = decimal_injective t a (omega arith) (omega arith) e in omega (arith, is))
  | inr other ↦ other
]

none_before : (t j a n : ℕ) → a + j ≤ t → t < 2 ^ 32 → list_any (has_name (slot_text t)) (take j (names_from a n)) ≡ false
none_before t zero a n le small = refl
none_before t (suc j) a zero le small = refl
none_before t (suc j) a (suc n) le small =
    let more : list_any (has_name (slot_text t)) (take j (names_from (suc a) n)) ≡ false = none_before t j (suc a) n (omega arith) small in
    ap (λ b. b || list_any (has_name (slot_text t)) (take j (names_from (suc a) n))) (other_name t a (omega arith) small) ∙ more

name_at : (j a n : ℕ) → j < n → slice_get (names_from a n) j ≡ Some (Some (slot_text (a + j)))
name_at j a zero lt = absurd (omega arith)
name_at zero a (suc n) lt = let e : a ≡ a + 0 = omega arith in ap (λ k. Some (Some (slot_text k))) e
name_at (suc j) a (suc n) lt =
    let e : suc a + j ≡ a + suc j = omega arith in
    name_at j (suc a) n (omega arith) ∙ ap (λ k. Some (Some (slot_text k))) e

shown : (n j : ℕ) → n < 2 ^ 32 → j < n → shown_name (slot_names n) (suc j) ≡ Some (slot_text (suc j))
shown n j small lt =
    let e : 1 + j ≡ suc j = omega arith in
    let p : suc j - 1 ≡ j = omega arith in
    let source : source_name (slot_names n) (suc j) ≡ Some (slot_text (suc j)) = ap name_here (name_at j 1 n lt ∙ ap (λ k. Some (Some (slot_text k))) e) in
    let none : list_any (has_name (slot_text (suc j))) (take j (names_from 1 n)) ≡ false = none_before (suc j) j 1 n (omega arith) (omega arith) in
    ap (λ i. unless_before i (names_from 1 n) (source_name (slot_names n) (suc j))) p
    ∙ ap (λ s. unless_before j (names_from 1 n) s) source
    ∙ ap (λ (b : Bool). if b then None else Some (slot_text (suc j))) none

pub slots_print_as_slots : SlotsPrintAsSlots
slots_print_as_slots n zero small some le = absurd (omega arith)
slots_print_as_slots n (suc j) small some le = ap (λ name. or_numbered name (record { number = suc j; bag = false })) (shown n j small (omega arith))
