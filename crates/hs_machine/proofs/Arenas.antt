-- Locations that have a node keep one.
use Rattle.std.proofs.Common.{◌≡◌, ℕ, ℤ, pos, ◌<ℤ◌, [], ◌∷◌, None, refl, sym, subst, arith}
use Rattle.std.proofs.lemmas.Int.{ints}
use Rattle.std.specs.Prelude.{IsSome, Result, Ok, Err, OnOk, OnErr, ◌+◌}
use Rattle.hs_heap.specs.declared.node.HeapNode.{HeapNode}
use Rattle.hs_heap.specs.Heap.{Heap, find_node, put_node, IsFreePlace}
use Rattle.hs_heap.proofs.Places.{stands, before, same, after}
use Rattle.hs_machine.specs.Arena.{AreTaken}

pub put_keeps : (h : Heap) (p q : ℤ) (n : HeapNode) → IsSome (find_node h p) → IsSome (find_node (put_node h q n) p)
put_keeps [] p q n some = absurd (cc)
put_keeps (e ∷ h) p q n some = elim (stands q e.0) [
  | before o i ↦ elim (stands p q) [
    | before u j ↦ rw (o, u) (elim (stands p e.0) [ before v k ↦ rw v (rw v at some) | same v k ↦ rw v refl | after v k ↦ rw v (rw v at some) ])
    | same u j ↦ rw (o, u) refl
    | after u j ↦ rw (o, u) (elim (stands p e.0) [ before v k ↦ rw v (rw v at some) | same v k ↦ rw v refl | after v k ↦ rw v (rw v at some) ])
  ]
  | same o i ↦ rw o (elim (stands p e.0) [ before v k ↦ rw v (rw v at some) | same v k ↦ rw v refl | after v k ↦ rw v (rw v at some) ])
  | after o i ↦ rw o (elim (stands p e.0) [
    | before v k ↦ rw v (put_keeps h p q n (rw v at some))
    | same v k ↦ rw v refl
    | after v k ↦ rw v (put_keeps h p q n (rw v at some))
  ])
]

pub put_taken : (h : Heap) (low : ℕ) (q : ℤ) (n : HeapNode) → AreTaken h low → AreTaken (put_node h q n) low
put_taken h low q n t = record { positive = t.positive; taken = λ p above below. put_keeps h p q n (t.taken p above below) }

-- whether or not there was memory
pub put_or_not : {A E : Type 0} (r : Result A E) (h k : Heap) (low : ℕ) (q : ℤ) (n : HeapNode) → OnOk r (k ≡ put_node h q n) → OnErr r (k ≡ h) → AreTaken h low → AreTaken k low
put_or_not (Ok a) h k low q n ok err t = subst (λ g. AreTaken g low) (sym ok) (put_taken h low q n t)
put_or_not (Err e) h k low q n ok err t = subst (λ g. AreTaken g low) (sym err) t

-- one more
pub taken_more : (h : Heap) (n : ℕ) → AreTaken h n → IsSome (find_node h (pos n)) → AreTaken h (n + 1)
taken_more h n t some = record {
  positive = let l = t.positive in omega arith;
  taken = λ p above below. elim (stands p (pos n)) [
    | before u j ↦ t.taken p above j
    | same u j ↦ subst (λ q. IsSome (find_node h q)) (sym j) some
    | after u j ↦ absurd (omega (arith, ints))
  ];
}

pub none_taken : (h : Heap) → AreTaken h 1
none_taken h = record { positive = omega arith; taken = λ p above below. absurd (omega (arith, ints)) }

-- below the least free location all have nodes
pub free_taken : (h : Heap) (low : ℕ) → IsFreePlace h (pos low) → AreTaken h low
free_taken h low f = record { positive = let l = f.positive in omega (arith, ints); taken = f.least }

-- one that is free above those that are taken is the least
pub taken_free : (h : Heap) (low : ℕ) → AreTaken h low → find_node h (pos low) ≡ None → IsFreePlace h (pos low)
taken_free h low t free = record { positive = let l = t.positive in omega (arith, ints); free = free; least = t.taken }
