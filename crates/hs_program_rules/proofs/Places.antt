-- Reading, writing and adding a node of a part.
use Rattle.std.proofs.Common.{◌≡◌, ℤ, pos, ◌<ℤ◌, ◌⊎◌, inl, inr, [], ◌∷◌, Option, Some, None, refl, arith}
use Rattle.std.proofs.lemmas.Int.{ints}
use Rattle.std.specs.declared.cmp.Ordering.TheVariants.{Equal}
use Rattle.std.specs.Ordering.{int_cmp}
use Rattle.hs_heap.specs.declared.node.HeapNode.{HeapNode}
use Rattle.hs_heap.specs.Heap.{Heap, Parts, none, left, right, RisesFrom, IsHeap, find_node, put_node}
use Rattle.hs_heap.proofs.Splits.{swap_parts, all_right, rises_left}
use Rattle.hs_heap.proofs.Places.{stands, before, same, after, find_low}

-- what a part has at a place, the heap has
pub find_part : (low q : ℤ) (n : HeapNode) {h a b : Heap} → Parts h a b → RisesFrom low h → find_node a q ≡ Some n → find_node h q ≡ Some n
find_part low q n none r e = e
find_part low q n (left {e = f} p) (l, r) e = elim (stands q f.0) [
  | before o i ↦ rw o (find_part f.0 q n p r (rw o at e))
  | same o i ↦ rw o (rw o at e)
  | after o i ↦ rw o (find_part f.0 q n p r (rw o at e))
]
find_part low q n (right {e = f} p) (l, r) e =
    let found = find_part f.0 q n p r e in
    elim (stands q f.0) [
      | before o i ↦ rw o found
      | same o i ↦ let h = find_low f.0 q n _ r found in absurd (omega (arith, ints, i))
      | after o i ↦ rw o found
    ]

put_first : (high q : ℤ) (n : HeapNode) (a : Heap) → RisesFrom high a → q <ℤ high → put_node a q n ≡ (q, n) ∷ a
put_first high q n [] r less = refl
put_first high q n (f ∷ a) (l, r) less = elim (stands q f.0) [
  | before o i ↦ rw o
  | same o i ↦ absurd (omega (arith, ints))
  | after o i ↦ absurd (omega (arith, ints))
]

-- a write to a part, also at a new place, leaves the rest as it was
pub put_part : (low q : ℤ) (n : HeapNode) {h a b : Heap} → Parts h a b → RisesFrom low h → find_node b q ≡ None → Parts (put_node h q n) (put_node a q n) b
put_part low q n none r e = left none
put_part low q n (left {e = f} p) (l, r) e = elim (stands q f.0) [
  | before o i ↦ rw o (left (left p))
  | same o i ↦ rw o (left p)
  | after o i ↦ rw o (left (put_part f.0 q n p r e))
]
put_part low q n (right {e = f} {a = a} p) (l, r) e = elim (stands q f.0) [
  | before o i ↦ rw (o, put_first f.0 q n a (rises_left f.0 p r) i) (left (right p))
  | same o i ↦ absurd (let k = rw o at e in cc)
  | after o i ↦ rw o (right (put_part f.0 q n p r (rw o at e)))
]

same_place : (q : ℤ) → int_cmp q q ≡ Equal
same_place q = elim (stands q q) [
  | before o i ↦ absurd (omega (arith, ints))
  | same o i ↦ o
  | after o i ↦ absurd (omega (arith, ints))
]

-- no place has a node in both
abbrev pub AreDisjoint : Heap → Heap → Type 0
AreDisjoint a b = (q : ℤ) (n k : HeapNode) → find_node a q ≡ Some n → find_node b q ≡ Some k → ⊥

-- parts of a heap are disjoint
pub parts_disjoint : (low : ℤ) {h a b : Heap} → Parts h a b → RisesFrom low h → AreDisjoint a b
parts_disjoint low none r q n k f g = cc
parts_disjoint low (left {e = e} {b = b} p) (l, r) q n k f g = elim (stands q e.0) [
  | before o i ↦ parts_disjoint e.0 p r q n k (rw o at f) g
  | same o i ↦ let m = find_low e.0 q k b (rises_left e.0 (swap_parts p) r) g in absurd (omega (arith, ints, i))
  | after o i ↦ parts_disjoint e.0 p r q n k (rw o at f) g
]
parts_disjoint low (right {e = e} {a = a} p) (l, r) q n k f g = elim (stands q e.0) [
  | before o i ↦ parts_disjoint e.0 p r q n k f (rw o at g)
  | same o i ↦ let m = find_low e.0 q n a (rises_left e.0 p r) f in absurd (omega (arith, ints, i))
  | after o i ↦ parts_disjoint e.0 p r q n k f (rw o at g)
]

option_cases : (o : Option HeapNode) → (o ≡ None) ⊎ ((n : HeapNode) × (o ≡ Some n))
option_cases None = inl refl
option_cases (Some n) = inr (n, refl)

-- a place that is free in the heap is free in its parts
pub free_in_part : (q : ℤ) {h a b : Heap} → Parts h a b → IsHeap h → find_node h q ≡ None → find_node b q ≡ None
free_in_part q {b = b} parts is_heap free = elim (option_cases (find_node b q)) [
  | inl is ↦ is
  | inr (n, found) ↦ let there = find_part (pos 0) q n (swap_parts parts) is_heap found in absurd (cc)
]

-- a new node beside a part
pub node_added : (q : ℤ) (n : HeapNode) {h a b : Heap} → Parts h a b → IsHeap h → find_node h q ≡ None → Parts (put_node h q n) (put_node a q n) b
node_added q n parts is_heap free = put_part (pos 0) q n parts is_heap (free_in_part q parts is_heap free)

pub node_apart : (q : ℤ) (n : HeapNode) (a : Heap) → IsHeap a → find_node a q ≡ None → Parts (put_node a q n) ((q, n) ∷ []) a
node_apart q n a is_heap free = put_part (pos 0) q n (all_right a) is_heap free

found_alone : (q : ℤ) (n : HeapNode) → find_node ((q, n) ∷ []) q ≡ Some n
found_alone q n = rw same_place

-- the one node of a part
pub node_found : (q : ℤ) (n : HeapNode) {h b : Heap} → Parts h ((q, n) ∷ []) b → IsHeap h → find_node h q ≡ Some n
node_found q n parts is_heap = find_part (pos 0) q n parts is_heap (found_alone q n)

-- is written
pub node_written : (q : ℤ) (n new : HeapNode) {h b : Heap} → Parts h ((q, n) ∷ []) b → IsHeap h → Parts (put_node h q new) ((q, new) ∷ []) b
node_written q n new {h} {b} parts is_heap =
    let free : find_node b q ≡ None = elim (option_cases (find_node b q)) [
      | inl is ↦ is
      | inr (k, found) ↦ absurd (parts_disjoint (pos 0) parts is_heap q n k (found_alone q n) found)
    ] in
    let p = put_part (pos 0) q new parts is_heap free in
    rw same_place at p
