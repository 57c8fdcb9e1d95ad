-- Where definitions are founded, a heap bounds how deep predicates are unfolded.
use Rattle.std.proofs.Common.{◌≡◌, ◌⊎◌, inl, inr, ℕ, zero, suc, ◌+◌, ◌<◌, ◌≤◌, ℤ, Bool, true, false, not, ◌&&◌, cond, List, [], ◌∷◌, map, length, get_or, Option, Some, None, refl, sym, ap, ◌∙◌, arith, subst, count_by, slice_get}
use Rattle.std.specs.List.{All}
use Rattle.std.proofs.lemmas.List.Sums.{sum_by-cons}
use Rattle.hs_pure.specs.Stack.{Stack, same}
use Rattle.hs_heap.specs.declared.formula.Of.{Of}
use Rattle.hs_heap.specs.declared.formula.Of.TheVariants.{Node, Pred}
use Rattle.hs_heap.specs.declared.formula.Atom.{Atom}
use Rattle.hs_heap.specs.declared.formula.Disjunct.{Disjunct}
use Rattle.hs_heap.specs.declared.definitions.PredDef.{PredDef}
use Rattle.hs_heap.specs.declared.definitions.Defs.{Defs}
use Rattle.hs_heap.specs.Heap.{Heap}
use Rattle.hs_heap.specs.Meaning.{Argument, argument_at, Meaning, OfHolds, AtomsHold, SomeHolds, BodyHolds, body_stack, meaning_at_depth, pred_at, self_var}
use Rattle.hs_heap.proofs.Splits.{length-parts}
use Rattle.hs_wf.specs.Founded.{is_node, is_root_node, HasOneRoot, CaseIsFounded, PredIsFounded, IsFounded, names_of}
use Rattle.hs_wf.specs.Laws.{DepthIsEnough}

-- a node is among the atoms
abbrev HasNode : List Atom → Type 0
HasNode [] = ⊥
HasNode (a ∷ rest) = (is_node a.of ≡ true) ⊎ HasNode rest

one_is_node : (atoms : List Atom) (n : ℕ) → count_by is_root_node atoms ≡ suc n → HasNode atoms
one_is_node [] n e = absurd (omega arith)
one_is_node (a ∷ rest) n e = go (is_node a.of) refl (sym (sum_by-cons (λ b. cond (is_root_node b) 1 0) a rest) ∙ e) (one_is_node rest n)
  where
    go : (b : Bool) → is_node a.of ≡ b → cond (b && same a.root self_var) 1 0 + count_by is_root_node rest ≡ suc n → (count_by is_root_node rest ≡ suc n → HasNode rest) → HasNode (a ∷ rest)
    go true is counted more = inl is
    go false isnt counted more = inr (more (omega arith))

module _ (x : Meaning) (s : Stack) where
  node_size : (o : Of) (root : ℤ) (args : List Argument) (h : Heap) → is_node o ≡ true → OfHolds x o root args h → length h ≡ 1
  node_size (Node kind) root args h node p = ap length p.0
  node_size (Pred pred) root args h node p = absurd cc

  has_size : (atoms : List Atom) (h : Heap) → HasNode atoms → AtomsHold x s h atoms → 0 < length h
  has_size [] h n p = absurd n
  has_size (a ∷ rest) h (inl n) (h1, h2, parts, one, more) = let e = node_size a.of (s a.root).number (map (argument_at s) a.args) h1 n one in let f = length-parts parts in omega arith
  has_size (a ∷ rest) h (inr n) (h1, h2, parts, one, more) = let e = has_size rest h2 n more in let f = length-parts parts in omega arith

  module _ (y : Meaning) (n : ℕ) (below : (pred : ℕ) (root : ℤ) (args : List Argument) (h : Heap) → length h ≤ n → x pred root args h → y pred root args h) where
    of_small : (o : Of) (root : ℤ) (args : List Argument) (h : Heap) → length h ≤ n → OfHolds x o root args h → OfHolds y o root args h
    of_small (Node kind) root args h le p = p
    of_small (Pred pred) root args h le p = below pred root args h le p

    of_node : (o : Of) (root : ℤ) (args : List Argument) (h : Heap) → is_node o ≡ true → OfHolds x o root args h → OfHolds y o root args h
    of_node (Node kind) root args h node p = p
    of_node (Pred pred) root args h node p = absurd cc

    atoms_small : (atoms : List Atom) (h : Heap) → length h ≤ n → AtomsHold x s h atoms → AtomsHold y s h atoms
    atoms_small [] h le p = p
    atoms_small (a ∷ rest) h le (h1, h2, parts, one, more) =
        let f = length-parts parts in
        (h1, h2, parts, of_small a.of (s a.root).number (map (argument_at s) a.args) h1 (omega arith) one, atoms_small rest h2 (omega arith) more)

    -- a node leaves less for the others
    atoms_with_node : (atoms : List Atom) (h : Heap) → length h ≤ suc n → HasNode atoms → AtomsHold x s h atoms → AtomsHold y s h atoms
    atoms_with_node [] h le node p = p
    atoms_with_node (a ∷ rest) h le (inl node) (h1, h2, parts, one, more) =
        let e = node_size a.of (s a.root).number (map (argument_at s) a.args) h1 node one in
        let f = length-parts parts in
        (h1, h2, parts, of_node a.of (s a.root).number (map (argument_at s) a.args) h1 node one, atoms_small rest h2 (omega arith) more)
    atoms_with_node (a ∷ rest) h le (inr node) (h1, h2, parts, one, more) =
        let e = has_size rest h2 node more in
        let f = length-parts parts in
        (h1, h2, parts, of_small a.of (s a.root).number (map (argument_at s) a.args) h1 (omega arith) one, atoms_with_node rest h2 (omega arith) node more)

module _ (x y : Meaning) (n : ℕ) (below : (pred : ℕ) (root : ℤ) (args : List Argument) (h : Heap) → length h < n → x pred root args h → y pred root args h) where
  -- a founded case needs its predicates on smaller heaps alone
  atoms_founded : (s : Stack) (atoms : List Atom) (h : Heap) → length h ≤ n → HasOneRoot atoms → AtomsHold x s h atoms → AtomsHold y s h atoms
  atoms_founded s atoms h le (inl none) p =
      let P : List Atom → Type 0 = λ atoms. AtomsHold x s h atoms in
      let Q : List Atom → Type 0 = λ atoms. AtomsHold y s h atoms in
      subst Q (sym none) (subst P none p)
  atoms_founded s atoms h le (inr one) p = with_node n le below (one_is_node atoms 0 one)
    where
      with_node : (m : ℕ) → length h ≤ m → ((pred : ℕ) (root : ℤ) (args : List Argument) (h : Heap) → length h < m → x pred root args h → y pred root args h) → HasNode atoms → AtomsHold y s h atoms
      with_node zero le below node = absurd (let e = has_size x s atoms h node p in omega arith)
      with_node (suc m) le below node = atoms_with_node x s y m (λ pred root args g less q. below pred root args g (omega arith) q) atoms h le node p

  cases_founded : (s : Stack) (ds : List Disjunct) (h : Heap) → length h ≤ n → All (λ (d : Disjunct). HasOneRoot d.atoms) ds → SomeHolds x s h ds → SomeHolds y s h ds
  cases_founded s [] h le founded p = p
  cases_founded s (d ∷ ds) h le founded (inl p) = inl (record { at = p.at; same = p.same; pure = p.pure; atoms = atoms_founded p.at d.atoms h le (founded zero d (omega arith)) p.atoms })
  cases_founded s (d ∷ ds) h le founded (inr p) = inr (cases_founded s ds h le (λ i e less. founded (suc i) e (omega arith)) p)

-- a predicate that is there has what all have
there_founded : (preds : List PredDef) (n : ℕ) (p : PredDef) → slice_get preds n ≡ Some p → All PredIsFounded preds → PredIsFounded p
there_founded [] n p e h = absurd cc
there_founded (q ∷ preds) zero p e h = let is : q ≡ p = cc in subst PredIsFounded is (h zero q (omega arith))
there_founded (q ∷ preds) (suc n) p e h = there_founded preds n p e (λ i d less. h (suc i) d (omega arith))

module _ (defs : Defs) (founded : IsFounded defs) where
  pred_founded : (n : ℕ) (p : PredDef) → pred_at defs n ≡ Some p → PredIsFounded p
  pred_founded zero p e = absurd cc
  pred_founded (suc n) p e = there_founded defs.preds n p e founded

  body_founded : (x y : Meaning) (n : ℕ) (below : (pred : ℕ) (root : ℤ) (args : List Argument) (h : Heap) → length h < n → x pred root args h → y pred root args h)
      (o : Option PredDef) (whole : (p : PredDef) → o ≡ Some p → PredIsFounded p) (root : ℤ) (args : List Argument) (h : Heap) → length h ≤ n → BodyHolds x o root args h → BodyHolds y o root args h
  body_founded x y n below None whole root args h le b = absurd b
  body_founded x y n below (Some p) whole root args h le b =
      cases_founded x y n below (body_stack p root args) p.body.cases h le (λ i d less. (whole p refl i d less).one_root) b

  depth_suffices : (n k : ℕ) (pred : ℕ) (root : ℤ) (args : List Argument) (h : Heap) → length h < n → meaning_at_depth defs k pred root args h → meaning_at_depth defs n pred root args h
  depth_suffices zero k pred root args h le p = absurd (omega arith)
  depth_suffices (suc n) zero pred root args h le p = absurd p
  depth_suffices (suc n) (suc k) pred root args h le p =
      body_founded (meaning_at_depth defs k) (meaning_at_depth defs n) n (λ q r zs g less e. depth_suffices n k q r zs g less e)
      (pred_at defs pred) (pred_founded pred) root args h (omega arith) p

  formula_depth : (s : Stack) (h : Heap) (k : ℕ) (ds : List Disjunct) → SomeHolds (meaning_at_depth defs k) s h ds → SomeHolds (meaning_at_depth defs (suc (length h))) s h ds
  formula_depth s h k [] p = p
  formula_depth s h k (d ∷ ds) (inl p) = inl (record {
    at = p.at;
    same = p.same;
    pure = p.pure;
    atoms = atoms_small (meaning_at_depth defs k) p.at (meaning_at_depth defs (suc (length h))) (length h) (λ q r zs g le e. depth_suffices (suc (length h)) k q r zs g (omega arith) e) d.atoms h (omega arith) p.atoms;
  })
  formula_depth s h k (d ∷ ds) (inr p) = inr (formula_depth s h k ds p)

pub depth_is_enough : DepthIsEnough
depth_is_enough defs founded s h f (k, p) = formula_depth defs founded s h k f.cases p
