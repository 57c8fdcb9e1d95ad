-- A list of atoms in parts.
use Rattle.std.proofs.Common.{◌≡◌, List, [], ◌∷◌, ◌++◌, refl, sym, subst}
use Rattle.hs_pure.specs.Stack.{Stack}
use Rattle.hs_heap.specs.Heap.{Heap, Parts}
use Rattle.hs_heap.specs.declared.formula.Atom.{Atom}
use Rattle.hs_heap.specs.Meaning.{Meaning, AtomHolds, AtomsHold}
use Rattle.hs_heap.proofs.Splits.{swap_parts, all_right, only_right, regroup}

-- (a + b) + d is a + (b + d)
pub regroup_right : {h ab a b d : Heap} → Parts h ab d → Parts ab a b → (bd : Heap) × Parts bd b d × Parts h a bd
regroup_right p q =
    let (db, l, r) = regroup (swap_parts p) (swap_parts q) in
    (db, swap_parts l, swap_parts r)

-- a + (b + d) is b + (a + d)
pub bring_out : {h a bd b d : Heap} → Parts h a bd → Parts bd b d → (ad : Heap) × Parts ad a d × Parts h b ad
bring_out p q =
    let (ab, l, r) = regroup p q in
    regroup_right r (swap_parts l)

module _ (x : Meaning) (s : Stack) where
  -- both lists hold of disjoint parts
  pub record BothHold (h : Heap) (xs ys : List Atom) : Type 0 where
    pub h1 : Heap
    pub h2 : Heap
    pub parts : Parts h h1 h2
    pub first : AtomsHold x s h1 xs
    pub second : AtomsHold x s h2 ys

  pub atoms_split : (xs ys : List Atom) (h : Heap) → AtomsHold x s h (xs ++ ys) → BothHold h xs ys
  atoms_split [] ys h p = record { h1 = []; h2 = h; parts = all_right h; first = refl; second = p }
  atoms_split (a ∷ xs) ys h (h1, h2, parts, one, more) =
      let b = atoms_split xs ys h2 more in
      let (g, l, r) = regroup parts b.parts in
      record { h1 = g; h2 = b.h2; parts = r; first = (h1, b.h1, l, one, b.first); second = b.second }

  pub atoms_join : (xs ys : List Atom) {h h1 h2 : Heap} → Parts h h1 h2 → AtomsHold x s h1 xs → AtomsHold x s h2 ys → AtomsHold x s h (xs ++ ys)
  atoms_join [] ys {h} {h1} {h2} parts e q =
      let only : h ≡ h2 = only_right (let P : Heap → Type 0 = λ g. Parts h g h2 in subst P e parts) in
      let P : Heap → Type 0 = λ g. AtomsHold x s g ys in subst P (sym only) q
  atoms_join (a ∷ xs) ys parts (g1, g2, inner, one, more) q =
      let (k, l, r) = regroup_right parts inner in
      (g1, k, r, one, atoms_join xs ys l more q)

  -- one atom apart from the others
  pub record OneHolds (h : Heap) (a : Atom) (others : List Atom) : Type 0 where
    pub h1 : Heap
    pub h2 : Heap
    pub parts : Parts h h1 h2
    pub one : AtomHolds x s h1 a
    pub rest : AtomsHold x s h2 others

  pub take_out : (xs : List Atom) (a : Atom) (ys : List Atom) (h : Heap) → AtomsHold x s h (xs ++ a ∷ ys) → OneHolds h a (xs ++ ys)
  take_out xs a ys h p =
      let b = atoms_split xs (a ∷ ys) h p in
      let (g1, g2, inner, one, more) = b.second in
      let (k, l, r) = bring_out b.parts inner in
      record { h1 = g1; h2 = k; parts = r; one = one; rest = atoms_join xs ys l b.first more }

  pub put_in : (xs : List Atom) (a : Atom) (ys : List Atom) {h h1 h2 : Heap} → Parts h h1 h2 → AtomHolds x s h1 a → AtomsHold x s h2 (xs ++ ys) → AtomsHold x s h (xs ++ a ∷ ys)
  put_in xs a ys {h1 = g} parts one p =
      let b = atoms_split xs ys _ p in
      let (k, l, r) = bring_out parts b.parts in
      atoms_join xs (a ∷ ys) r b.first (g, b.h2, l, one, b.second)
