-- The line of a node.
use Rattle.std.proofs.Common.{◌≡◌, ℕ, zero, suc, ◌+◌, ◌<◌, ℤ, ◌<ℤ◌, ◌≤ℤ◌, List, [], ◌∷◌, ◌++◌, length, refl, sym, ap, ◌∙◌, subst, arith, Option, Some, None, slice_get, option_map, ◌⊎◌, inl, inr}
use Rattle.std.specs.Fmt.{signed_decimal}
use Rattle.hs_heap.specs.declared.node.HeapNode.{HeapNode}
use Rattle.hs_heap.specs.declared.definitions.NodeDef.{NodeDef}
use Rattle.hs_heap.specs.declared.definitions.Defs.{Defs}
use Rattle.hs_heap.specs.Heap.{Entry}
use Rattle.hs_heap.specs.Sound.{node_at}
use Rattle.hs_heaptext.specs.Lines.{EndsAt, CutsAt}
use Rattle.hs_heaptext.specs.Values.{IsSmall, AreSmall, values_text}
use Rattle.hs_heaptext.specs.Text.{name_of}
use Rattle.hs_heaptext.specs.Reading.{StatesFields, StatesNode, StatesEntry, IsEntryLine}
use Rattle.hs_heaptext.proofs.Lines.{parted, tail_same, not_empty, left_same}
use Rattle.hs_heaptext.proofs.Numbers.{signed_lacks, signed_same}
use Rattle.hs_heaptext.proofs.Words.{values_once}
use Rattle.std.proofs.lemmas.Int.{ints}

-- ---- the data type

some_same : {A : Type 0} (x y : A) → Some x ≡ Some y → x ≡ y
some_same {A = A} x y e = ap (λ o. or_else o) e
  where
    or_else : Option A → A
    or_else None = x
    or_else (Some z) = z

count_of : Option NodeDef → Option ℕ
count_of o = option_map (λ (d : NodeDef). length d.fields) o

pub states_of : (defs : Defs) (i : ℕ) (d : NodeDef) (text : List ℕ) (xs : List ℤ) → slice_get defs.nodes i ≡ Some d → StatesFields d text xs
    → StatesNode defs text (record { of = suc i; values = xs })
states_of defs i d text xs is h = record {
  is = h.is ∙ ap (λ o. name_of o ++ values_text xs) (sym is);
  small = h.small;
  fits = ap (λ o. option_map (λ (k : NodeDef). length k.fields) o) is ∙ ap (λ n. Some n) h.count;
}

-- no data type before the place i fits
pub NoneBefore : Defs → List ℕ → ℕ → Type 0
NoneBefore defs text i = (k : ℕ) (d : NodeDef) → k < i → slice_get defs.nodes k ≡ Some d → (xs : List ℤ) → StatesFields d text xs → ⊥

pub none_yet : (defs : Defs) (text : List ℕ) → NoneBefore defs text 0
unfolding NoneBefore
none_yet defs text k d lt is xs h = omega arith

pub none_more : (defs : Defs) (text : List ℕ) (i : ℕ) (d : NodeDef) → NoneBefore defs text i → slice_get defs.nodes i ≡ Some d → ((xs : List ℤ) → StatesFields d text xs → ⊥)
    → NoneBefore defs text (i + 1)
unfolding NoneBefore
none_more defs text i d h is none k other lt at xs states = go (lt_or_same k i (omega arith))
  where
    lt_or_same : (k i : ℕ) → k < i + 1 → (k < i) ⊎ (k ≡ i)
    lt_or_same k i lt = grind arith

    go : (k < i) ⊎ (k ≡ i) → ⊥
    go (inl less) = h k other less at xs states
    go (inr same) =
        let e : Some d ≡ Some other = sym is ∙ ap (λ j. slice_get defs.nodes j) (sym same) ∙ at in
        none xs (subst (λ def. StatesFields def text xs) (sym (some_same d other e)) states)

get_within : (xs : List NodeDef) (k : ℕ) (d : NodeDef) → slice_get xs k ≡ Some d → k < length xs
get_within [] k d e = absurd (no_none e)
  where
    no_none : {A : Type 0} {x : A} → None ≡ Some x → ⊥
    no_none e = cc
get_within (x ∷ xs) zero d e = omega arith
get_within (x ∷ xs) (suc k) d e = let lt = get_within xs k d e in omega arith

fields_of : (def : NodeDef) (text : List ℕ) (n : HeapNode) → text ≡ def.name ++ values_text n.values → AreSmall n.values → Some (length def.fields) ≡ Some (length n.values)
    → StatesFields def text n.values
fields_of def text n is small fits = record { is = is; small = small; count = some_same (length def.fields) (length n.values) fits }

-- none at all
pub no_node : (defs : Defs) (text : List ℕ) (i : ℕ) → NoneBefore defs text i → length defs.nodes ≡ i → (n : HeapNode) → StatesNode defs text n → ⊥
unfolding NoneBefore
no_node defs text i none whole n h = go n.of refl
  where
    at : (k : ℕ) (o : Option NodeDef) → slice_get defs.nodes k ≡ o → n.of ≡ suc k → ⊥
    at k None is e =
        let f : option_map (λ (d : NodeDef). length d.fields) (node_at defs (suc k)) ≡ Some (length n.values) = subst (λ j. option_map (λ (d : NodeDef). length d.fields) (node_at defs j) ≡ Some (length n.values)) e h.fits in
        let g : None ≡ Some (length n.values) = sym (ap (λ o. option_map (λ (d : NodeDef). length d.fields) o) is) ∙ f in
        cc
    at k (Some d) is e =
        let f : option_map (λ (d : NodeDef). length d.fields) (node_at defs (suc k)) ≡ Some (length n.values) = subst (λ j. option_map (λ (d : NodeDef). length d.fields) (node_at defs j) ≡ Some (length n.values)) e h.fits in
        let g : Some (length d.fields) ≡ Some (length n.values) = sym (ap (λ o. option_map (λ (d : NodeDef). length d.fields) o) is) ∙ f in
        let t : text ≡ d.name ++ values_text n.values = h.is ∙ ap (λ j. name_of (node_at defs j) ++ values_text n.values) e ∙ ap (λ o. name_of o ++ values_text n.values) is in
        let lt = get_within defs.nodes k d is in
        none k d (omega arith) is n.values (fields_of d text n t h.small g)

    go : (k : ℕ) → n.of ≡ k → ⊥
    go zero e =
        let f : None ≡ Some (length n.values) = subst (λ j. option_map (λ (d : NodeDef). length d.fields) (node_at defs j) ≡ Some (length n.values)) e h.fits in
        cc
    go (suc k) e = at k (slice_get defs.nodes k) refl e

-- ---- the location

-- the location of the line, and what stands behind its blank
pub entry_parts : (defs : Defs) (low : ℤ) (line word rest : List ℕ) (e : Entry) → CutsAt 32 line word rest → StatesEntry defs low line e
    → (word ≡ signed_decimal e.0) × (rest ≡ 32 ∷ (name_of (node_at defs e.1.of) ++ values_text e.1.values))
entry_parts defs low line word rest e cut h =
    parted 32 word (signed_decimal e.0) rest (32 ∷ (name_of (node_at defs e.1.of) ++ values_text e.1.values)) cut.lacks (signed_lacks 32 e.0 h.small.0 (omega arith)) cut.ends refl (sym cut.split ∙ h.is)

pub no_place : (defs : Defs) (low : ℤ) (line word rest : List ℕ) → CutsAt 32 line word rest → ((x : ℤ) → IsSmall x → word ≡ signed_decimal x → ⊥) → IsEntryLine defs low line → ⊥
no_place defs low line word rest cut none (e, h) = none e.0 h.small.0 (entry_parts defs low line word rest e cut h).0

pub no_blank : (defs : Defs) (low : ℤ) (line word rest : List ℕ) → CutsAt 32 line word rest → rest ≡ [] → IsEntryLine defs low line → ⊥
no_blank defs low line word rest cut none (e, h) = not_empty (sym (entry_parts defs low line word rest e cut h).1 ∙ none)

pub no_rise : (defs : Defs) (low place : ℤ) (line word rest : List ℕ) → CutsAt 32 line word rest → IsSmall place → word ≡ signed_decimal place → place ≤ℤ low → IsEntryLine defs low line → ⊥
no_rise defs low place line word rest cut small is le (e, h) =
    let same = signed_same place e.0 small h.small.0 (sym is ∙ (entry_parts defs low line word rest e cut h).0) in
    let r = h.rises in
    omega (arith, ints, le, r, same)

pub no_data : (defs : Defs) (low : ℤ) (line word rest text : List ℕ) (b : ℕ) → CutsAt 32 line word rest → rest ≡ b ∷ text → ((n : HeapNode) → StatesNode defs text n → ⊥) → IsEntryLine defs low line → ⊥
no_data defs low line word rest text b cut is none (e, h) =
    none e.1 (record { is = tail_same (sym is ∙ (entry_parts defs low line word rest e cut h).1); small = h.small.1; fits = h.fits })

pub entry_of : (defs : Defs) (low place : ℤ) (line word rest text : List ℕ) (b : ℕ) (n : HeapNode) → CutsAt 32 line word rest → rest ≡ b ∷ text → IsSmall place → word ≡ signed_decimal place
    → low <ℤ place → StatesNode defs text n → StatesEntry defs low line (place, n)
entry_of defs low place line word rest text b n cut is small at lt h =
    let blank : b ≡ 32 = subst (EndsAt 32) is cut.ends in
    record {
      is = cut.split ∙ ap (λ l. l ++ rest) at ∙ ap (λ l. signed_decimal place ++ l) (is ∙ ap (λ c. c ∷ text) blank ∙ ap (λ l. 32 ∷ l) h.is);
      rises = lt;
      small = (small, h.small);
      fits = h.fits;
    }

pub no_fields : (def : NodeDef) (text rest : List ℕ) → text ≡ def.name ++ rest → ((xs : List ℤ) → AreSmall xs → rest ≡ values_text xs → ⊥) → (xs : List ℤ) → StatesFields def text xs → ⊥
no_fields def text rest is none xs h = none xs h.small (left_same def.name rest (values_text xs) (sym is ∙ h.is))

pub no_count : (def : NodeDef) (text rest : List ℕ) (ys : List ℤ) → text ≡ def.name ++ rest → AreSmall ys → rest ≡ values_text ys → (length ys ≡ length def.fields → ⊥) → (xs : List ℤ) → StatesFields def text xs → ⊥
no_count def text rest ys is small at other xs h =
    let same : ys ≡ xs = values_once ys xs small h.small (sym at ∙ left_same def.name rest (values_text xs) (sym is ∙ h.is)) in
    other (ap length same ∙ sym h.count)
