-- Meanings grow with depth, and a formula is satisfied where it holds with each predicate's least meaning.
use Rattle.std.proofs.Common.{ℕ, zero, suc, ℤ, ◌≤◌, List, [], ◌∷◌, max, Option, Some, None, inl, inr, arith}
use Rattle.hs_pure.specs.Stack.{Stack}
use Rattle.hs_heap.specs.declared.formula.Of.{Of}
use Rattle.hs_heap.specs.declared.formula.Of.TheVariants.{Node, Pred}
use Rattle.hs_heap.specs.declared.formula.Atom.{Atom}
use Rattle.hs_heap.specs.declared.formula.Disjunct.{Disjunct}
use Rattle.hs_heap.specs.declared.formula.Formula.{Formula}
use Rattle.hs_heap.specs.declared.definitions.PredDef.{PredDef}
use Rattle.hs_heap.specs.declared.definitions.Defs.{Defs}
use Rattle.hs_heap.specs.Heap.{Heap}
use Rattle.hs_heap.specs.Meaning.{Argument, Meaning, OfHolds, AtomsHold, DisjunctHolds, SomeHolds, FormulaHolds, pred_at, BodyHolds, meaning_at_depth, SatisfiesAtDepth, Satisfies, SatisfiesAtoms}

-- the predicate holds at some depth
abbrev pub least : Defs → Meaning
least defs pred root args h = (k : ℕ) × meaning_at_depth defs k pred root args h

-- y holds wherever x does
abbrev pub IsBelow : Meaning → Meaning → Type 0
IsBelow x y = (pred : ℕ) (root : ℤ) (args : List Argument) (h : Heap) → x pred root args h → y pred root args h

module _ (x y : Meaning) (below : IsBelow x y) where
  pub OfHolds-below : (o : Of) (root : ℤ) (args : List Argument) (h : Heap) → OfHolds x o root args h → OfHolds y o root args h
  OfHolds-below (Node kind) root args h p = p
  OfHolds-below (Pred pred) root args h p = below pred root args h p

  pub AtomsHold-below : (s : Stack) (h : Heap) (atoms : List Atom) → AtomsHold x s h atoms → AtomsHold y s h atoms
  AtomsHold-below s h [] p = p
  AtomsHold-below s h (a ∷ rest) (h1, h2, parts, one, more) =
      (h1, h2, parts, OfHolds-below a.of _ _ h1 one, AtomsHold-below s h2 rest more)

  pub DisjunctHolds-below : (s : Stack) (h : Heap) (d : Disjunct) → DisjunctHolds x s h d → DisjunctHolds y s h d
  DisjunctHolds-below s h d p = record { at = p.at; same = p.same; pure = p.pure; atoms = AtomsHold-below p.at h d.atoms p.atoms }

  pub SomeHolds-below : (s : Stack) (h : Heap) (ds : List Disjunct) → SomeHolds x s h ds → SomeHolds y s h ds
  SomeHolds-below s h [] p = p
  SomeHolds-below s h (d ∷ ds) (inl p) = inl (DisjunctHolds-below s h d p)
  SomeHolds-below s h (d ∷ ds) (inr p) = inr (SomeHolds-below s h ds p)

  BodyHolds-below : (o : Option PredDef) (root : ℤ) (args : List Argument) (h : Heap) → BodyHolds x o root args h → BodyHolds y o root args h
  BodyHolds-below None root args h p = p
  BodyHolds-below (Some d) root args h p = SomeHolds-below _ h d.body.cases p

pub depth_below : (defs : Defs) (j k : ℕ) → j ≤ k → IsBelow (meaning_at_depth defs j) (meaning_at_depth defs k)
depth_below defs zero k le pred root args h p = absurd p
depth_below defs (suc j) zero le pred root args h p = absurd (omega arith)
depth_below defs (suc j) (suc k) le pred root args h p =
    BodyHolds-below (meaning_at_depth defs j) (meaning_at_depth defs k) (depth_below defs j k (omega arith)) (pred_at defs pred) root args h p

pub depth_least : (defs : Defs) (k : ℕ) → IsBelow (meaning_at_depth defs k) (least defs)
depth_least defs k pred root args h p = (k, p)

-- deeper is no less
pub satisfies_deeper : (defs : Defs) (j k : ℕ) → j ≤ k → (s : Stack) (h : Heap) (f : Formula) → SatisfiesAtDepth defs j s h f → SatisfiesAtDepth defs k s h f
satisfies_deeper defs j k le s h f p = SomeHolds-below (meaning_at_depth defs j) (meaning_at_depth defs k) (depth_below defs j k le) s h f.cases p

module _ (defs : Defs) where
  OfHolds-depth : (o : Of) (root : ℤ) (args : List Argument) (h : Heap) → OfHolds (least defs) o root args h → (k : ℕ) × OfHolds (meaning_at_depth defs k) o root args h
  OfHolds-depth (Node kind) root args h p = (0, p)
  OfHolds-depth (Pred pred) root args h p = p

  AtomsHold-depth : (s : Stack) (h : Heap) (atoms : List Atom) → AtomsHold (least defs) s h atoms → (k : ℕ) × AtomsHold (meaning_at_depth defs k) s h atoms
  AtomsHold-depth s h [] p = (0, p)
  AtomsHold-depth s h (a ∷ rest) (h1, h2, parts, one, more) =
      let (j, p) = OfHolds-depth a.of _ _ h1 one in
      let (k, q) = AtomsHold-depth s h2 rest more in (
        max j k,
        (
          h1,
          h2,
          parts,
          OfHolds-below (meaning_at_depth defs j) (meaning_at_depth defs (max j k)) (depth_below defs j (max j k) (omega arith)) a.of _ _ h1 p,
          AtomsHold-below (meaning_at_depth defs k) (meaning_at_depth defs (max j k)) (depth_below defs k (max j k) (omega arith)) s h2 rest q,
        ),
      )

  SomeHolds-depth : (s : Stack) (h : Heap) (ds : List Disjunct) → SomeHolds (least defs) s h ds → (k : ℕ) × SomeHolds (meaning_at_depth defs k) s h ds
  SomeHolds-depth s h [] p = absurd p
  SomeHolds-depth s h (d ∷ ds) (inl p) =
      let (k, q) = AtomsHold-depth p.at h d.atoms p.atoms in
      (k, inl (record { at = p.at; same = p.same; pure = p.pure; atoms = q }))
  SomeHolds-depth s h (d ∷ ds) (inr p) = let (k, q) = SomeHolds-depth s h ds p in (k, inr q)

  -- a formula is satisfied where it holds with each predicate's least meaning
  pub satisfies_from_least : (s : Stack) (h : Heap) (f : Formula) → FormulaHolds (least defs) s h f → Satisfies defs s h f
  satisfies_from_least s h f p = SomeHolds-depth s h f.cases p

  pub least_from_satisfies : (s : Stack) (h : Heap) (f : Formula) → Satisfies defs s h f → FormulaHolds (least defs) s h f
  least_from_satisfies s h f (k, p) = SomeHolds-below (meaning_at_depth defs k) (least defs) (depth_least defs k) s h f.cases p

  -- and so for atoms
  pub satisfies_atoms_from_least : (s : Stack) (h : Heap) (atoms : List Atom) → AtomsHold (least defs) s h atoms → SatisfiesAtoms defs s h atoms
  satisfies_atoms_from_least s h atoms p = AtomsHold-depth s h atoms p

  pub least_from_satisfies_atoms : (s : Stack) (h : Heap) (atoms : List Atom) → SatisfiesAtoms defs s h atoms → AtomsHold (least defs) s h atoms
  least_from_satisfies_atoms s h atoms (k, p) = AtomsHold-below (meaning_at_depth defs k) (least defs) (depth_least defs k) s h atoms p

  BodyHolds-depth : (o : Option PredDef) (root : ℤ) (args : List Argument) (h : Heap) → BodyHolds (least defs) o root args h → (k : ℕ) × BodyHolds (meaning_at_depth defs k) o root args h
  BodyHolds-depth None root args h p = absurd p
  BodyHolds-depth (Some d) root args h p = SomeHolds-depth _ h d.body.cases p

  -- a predicate holds where its body does
  pub unfold_least : (pred : ℕ) (root : ℤ) (args : List Argument) (h : Heap) → least defs pred root args h → BodyHolds (least defs) (pred_at defs pred) root args h
  unfold_least pred root args h (zero, p) = absurd p
  unfold_least pred root args h (suc k, p) =
      BodyHolds-below (meaning_at_depth defs k) (least defs) (depth_least defs k) (pred_at defs pred) root args h p

  pub fold_least : (pred : ℕ) (root : ℤ) (args : List Argument) (h : Heap) → BodyHolds (least defs) (pred_at defs pred) root args h → least defs pred root args h
  fold_least pred root args h p = let (k, q) = BodyHolds-depth (pred_at defs pred) root args h p in (suc k, q)
