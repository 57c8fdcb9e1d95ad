-- The roots of nodes are positive and differ.
use Rattle.std.proofs.Common.{◌≡◌, ℤ, pos, ◌<ℤ◌, ◌⊎◌, inl, inr, List, [], ◌∷◌, map, refl, sym, subst, arith}
use Rattle.std.specs.List.{AllByRecursion}
use Rattle.std.proofs.lemmas.Int.{ints}
use Rattle.hs_pure.specs.Stack.{Stack}
use Rattle.hs_heap.specs.declared.formula.Of.{Of}
use Rattle.hs_heap.specs.declared.formula.Of.TheVariants.{Node, Pred}
use Rattle.hs_heap.specs.declared.formula.Atom.{Atom}
use Rattle.hs_heap.specs.Heap.{Heap, Parts, none, left, right, RisesFrom, IsHeap}
use Rattle.hs_heap.specs.Meaning.{Argument, Meaning, OfHolds, AtomsHold}
use Rattle.hs_heap.proofs.Splits.{rises_right}

-- the heap has a node at r
abbrev pub HasLocation : ℤ → Heap → Type 0
HasLocation r [] = ⊥
HasLocation r (e ∷ h) = (e.0 ≡ r) ⊎ HasLocation r h

pub location_left : (r : ℤ) {h a b : Heap} → Parts h a b → HasLocation r a → HasLocation r h
location_left r none i = i
location_left r (left p) (inl is) = inl is
location_left r (left p) (inr i) = inr (location_left r p i)
location_left r (right p) i = inr (location_left r p i)

pub location_right : (r : ℤ) {h a b : Heap} → Parts h a b → HasLocation r b → HasLocation r h
location_right r none i = i
location_right r (left p) i = inr (location_right r p i)
location_right r (right p) (inl is) = inl is
location_right r (right p) (inr i) = inr (location_right r p i)

pub location_above : (low r : ℤ) (h : Heap) → RisesFrom low h → HasLocation r h → low <ℤ r
location_above low r [] rises i = absurd i
location_above low r (e ∷ h) (first, rises) (inl is) = let P : ℤ → Type 0 = λ q. low <ℤ q in subst P is first
location_above low r (e ∷ h) (first, rises) (inr i) = let above = location_above e.0 r h rises i in omega (arith, ints)

above_itself : (low r : ℤ) (h : Heap) → low ≡ r → RisesFrom low h → HasLocation r h → ⊥
above_itself low r h is rises i = let above = location_above low r h rises i in omega (arith, ints)

-- two parts have no location in common
pub locations_apart : (low r : ℤ) {h a b : Heap} → Parts h a b → RisesFrom low h → HasLocation r a → HasLocation r b → ⊥
locations_apart low r none rises i j = i
locations_apart low r (left {e = e} {h = h} p) (first, rises) (inl is) j = above_itself e.0 r h is rises (location_right r p j)
locations_apart low r (left {e = e} p) (first, rises) (inr i) j = locations_apart e.0 r p rises i j
locations_apart low r (right {e = e} {h = h} p) (first, rises) i (inl is) = above_itself e.0 r h is rises (location_left r p i)
locations_apart low r (right {e = e} p) (first, rises) i (inr j) = locations_apart e.0 r p rises i j

abbrev pub IsNode : Of → Type 0
IsNode (Node kind) = Unit {0}
IsNode (Pred pred) = ⊥

-- the values of the roots
abbrev pub roots_at : Stack → List Atom → List ℤ
roots_at s atoms = map (λ (a : Atom). (s a.root).number) atoms

-- they are positive and differ
abbrev pub PositiveAndApart : List ℤ → Type 0
PositiveAndApart [] = Unit {0}
PositiveAndApart (r ∷ rs) = (pos 0 <ℤ r) × AllByRecursion (λ q. ¬ (r ≡ q)) rs × PositiveAndApart rs

module _ (x : Meaning) where
  root_located : (o : Of) (r : ℤ) (args : List Argument) (h : Heap) → IsNode o → OfHolds x o r args h → HasLocation r h
  root_located (Node kind) r args h i (is, above) = let P : Heap → Type 0 = λ g. HasLocation r g in subst P (sym is) (inl refl)
  root_located (Pred pred) r args h i p = absurd i

  root_above : (o : Of) (r : ℤ) (args : List Argument) (h : Heap) → IsNode o → OfHolds x o r args h → pos 0 <ℤ r
  root_above (Node kind) r args h i (is, above) = above
  root_above (Pred pred) r args h i p = absurd i

  roots_apart_from : (r low : ℤ) {h a b : Heap} → Parts h a b → RisesFrom low h → HasLocation r a → (rs : List ℤ) → AllByRecursion (λ q. HasLocation q b) rs → AllByRecursion (λ q. ¬ (r ≡ q)) rs
  roots_apart_from r low parts rises i [] all = tt
  roots_apart_from r low {a = a} parts rises i (q ∷ qs) (j, all) =
      (λ is. locations_apart low q parts rises (subst (λ p. HasLocation p a) is i) j, roots_apart_from r low parts rises i qs all)

  roots_located_in : (rs : List ℤ) {h a b : Heap} → Parts h a b → AllByRecursion (λ q. HasLocation q b) rs → AllByRecursion (λ q. HasLocation q h) rs
  roots_located_in [] parts all = tt
  roots_located_in (r ∷ rs) parts (i, all) = (location_right r parts i, roots_located_in rs parts all)

  roots_located : (s : Stack) (h : Heap) (atoms : List Atom) → AllByRecursion (λ (a : Atom). IsNode a.of) atoms → AtomsHold x s h atoms → AllByRecursion (λ q. HasLocation q h) (roots_at s atoms)
  roots_located s h [] nodes p = tt
  roots_located s h (a ∷ rest) (node, nodes) (h1, h2, parts, one, more) =
      (location_left _ parts (root_located a.of _ _ h1 node one), roots_located_in _ parts (roots_located s h2 rest nodes more))

  -- the roots of nodes in one heap are positive and differ
  pub roots_apart : (s : Stack) (h : Heap) (atoms : List Atom) → IsHeap h → AllByRecursion (λ (a : Atom). IsNode a.of) atoms → AtomsHold x s h atoms → PositiveAndApart (roots_at s atoms)
  roots_apart s h atoms is_heap nodes p = go (pos 0) h atoms is_heap nodes p
    where
      go : (low : ℤ) (h : Heap) (atoms : List Atom) → RisesFrom low h → AllByRecursion (λ (a : Atom). IsNode a.of) atoms → AtomsHold x s h atoms → PositiveAndApart (roots_at s atoms)
      go low h [] rises nodes p = tt
      go low h (a ∷ rest) rises (node, nodes) (h1, h2, parts, one, more) = (
        root_above a.of _ _ h1 node one,
        roots_apart_from _ low parts rises (root_located a.of _ _ h1 node one) _ (roots_located s h2 rest nodes more),
        go low h2 rest (rises_right low parts rises) nodes more,
      )
