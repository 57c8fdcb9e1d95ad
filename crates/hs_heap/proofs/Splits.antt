-- The algebra of disjoint unions.
use Rattle.std.proofs.Common.{◌+◌, ◌≡◌, ℤ, pos, ◌<ℤ◌, [], ◌∷◌, length, refl, ap, arith}
use Rattle.std.proofs.lemmas.Int.{ints}
use Rattle.hs_heap.specs.Heap.{Heap, Parts, none, left, right, RisesFrom, IsHeap}

pub swap_parts : {h a b : Heap} → Parts h a b → Parts h b a
swap_parts none = none
swap_parts (left p) = right (swap_parts p)
swap_parts (right p) = left (swap_parts p)

pub all_left : (h : Heap) → Parts h h []
all_left [] = none
all_left (e ∷ h) = left (all_left h)

pub all_right : (h : Heap) → Parts h [] h
all_right h = swap_parts (all_left h)

pub only_right : {h b : Heap} → Parts h [] b → h ≡ b
only_right none = refl
only_right (right {e = e} p) = ap (λ t. e ∷ t) (only_right p)

-- a + (c + d) is (a + c) + d
pub regroup : {h a b c d : Heap} → Parts h a b → Parts b c d → (ac : Heap) × Parts ac a c × Parts h ac d
regroup none none = ([], none, none)
regroup (left {e = e} p) q = let (ac, l, r) = regroup p q in (e ∷ ac, left l, left r)
regroup (right {e = e} p) (left q) = let (ac, l, r) = regroup p q in (e ∷ ac, right l, left r)
regroup (right p) (right q) = let (ac, l, r) = regroup p q in (ac, l, right r)

pub length-parts : {h a b : Heap} → Parts h a b → length h ≡ length a + length b
length-parts none = refl
length-parts (left p) = let e = length-parts p in omega arith
length-parts (right p) = let e = length-parts p in omega arith

RisesFrom-lower : (low high : ℤ) (h : Heap) → low <ℤ high → RisesFrom high h → RisesFrom low h
RisesFrom-lower low high [] less r = tt
RisesFrom-lower low high (e ∷ h) less (f, r) = (omega (arith, ints), r)

pub rises_left : (low : ℤ) {h a b : Heap} → Parts h a b → RisesFrom low h → RisesFrom low a
rises_left low none r = tt
rises_left low (left {e = e} p) (f, r) = (f, rises_left e.0 p r)
rises_left low (right {e = e} {a = a} p) (f, r) = RisesFrom-lower low e.0 a f (rises_left e.0 p r)

pub rises_right : (low : ℤ) {h a b : Heap} → Parts h a b → RisesFrom low h → RisesFrom low b
rises_right low p r = rises_left low (swap_parts p) r

-- a part of a heap is a heap
pub IsHeap-left : {h a b : Heap} → Parts h a b → IsHeap h → IsHeap a
IsHeap-left p r = rises_left (pos 0) p r

pub IsHeap-right : {h a b : Heap} → Parts h a b → IsHeap h → IsHeap b
IsHeap-right p r = rises_right (pos 0) p r
