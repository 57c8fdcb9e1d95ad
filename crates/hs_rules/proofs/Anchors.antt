-- An anchored goal keeps a node apart from each of its predicates on the left.
use Rattle.std.proofs.Common.{◌≡◌, ℕ, ℤ, ◌+◌, ◌≤◌, ◌⊎◌, inl, inr, List, [], ◌∷◌, ◌++◌, length, ap, subst, arith}
use Rattle.std.specs.List.{AllByRecursion}
use Rattle.hs_pure.specs.declared.pure.Pure.{Pure}
use Rattle.hs_pure.specs.Stack.{Stack}
use Rattle.hs_heap.specs.declared.formula.Of.{Of}
use Rattle.hs_heap.specs.declared.formula.Of.TheVariants.{Node, Pred}
use Rattle.hs_heap.specs.declared.formula.Atom.{Atom}
use Rattle.hs_heap.specs.declared.formula.Formula.{Formula}
use Rattle.hs_heap.specs.Heap.{Heap}
use Rattle.hs_heap.specs.Meaning.{Argument, Meaning, AtomsHold, OfHolds}
use Rattle.hs_heap.proofs.Splits.{length-parts}
use Rattle.hs_goal.specs.declared.goal.Goal.{Goal}
use Rattle.hs_goal.specs.Anchored.{IsNode, HasNode, CaseIsAnchored, IsAnchored}
use Rattle.hs_rules.specs.Parts.{plain}

module _ (x : Meaning) (s : Stack) where
  node_takes : (o : Of) (r : ℤ) (ns : List Argument) (h : Heap) → IsNode o → OfHolds x o r ns h → 1 ≤ length h
  node_takes (Node kind) r ns h i (e, f) = let k = ap length e in omega arith
  node_takes (Pred pred) r ns h i p = absurd i

  pub atoms_take : (atoms : List Atom) (h : Heap) → HasNode atoms → AtomsHold x s h atoms → 1 ≤ length h
  atoms_take [] h i p = absurd i
  atoms_take (a ∷ rest) h (inl i) (h1, h2, parts, one, more) =
      let e = length-parts parts in let k = node_takes a.of _ _ h1 i one in omega arith
  atoms_take (a ∷ rest) h (inr i) (h1, h2, parts, one, more) =
      let e = length-parts parts in let k = atoms_take rest h2 i more in omega arith

-- all but a predicate
pub HasNode-others : (xs : List Atom) (a : Atom) (ys : List Atom) (n : ℕ) → a.of ≡ Pred n → HasNode (xs ++ a ∷ ys) → HasNode (xs ++ ys)
HasNode-others [] a ys n e (inl i) = absurd (subst IsNode e i)
HasNode-others [] a ys n e (inr i) = i
HasNode-others (b ∷ xs) a ys n e (inl i) = inl i
HasNode-others (b ∷ xs) a ys n e (inr i) = inr (HasNode-others xs a ys n e i)

pub not_none : (xs : List Atom) (a : Atom) (ys : List Atom) → xs ++ a ∷ ys ≡ [] → ⊥
not_none [] a ys e = cc
not_none (b ∷ xs) a ys e = cc

pub HasNode-left : (xs ys : List Atom) → HasNode xs → HasNode (xs ++ ys)
HasNode-left [] ys i = absurd i
HasNode-left (a ∷ xs) ys (inl i) = inl i
HasNode-left (a ∷ xs) ys (inr i) = inr (HasNode-left xs ys i)

pub HasNode-right : (xs ys : List Atom) → HasNode ys → HasNode (xs ++ ys)
HasNode-right [] ys i = i
HasNode-right (a ∷ xs) ys i = inr (HasNode-right xs ys i)

pub HasNode-moved : (used xs : List Atom) (a : Atom) (ys : List Atom) → HasNode (xs ++ a ∷ ys) → HasNode (used ++ a ∷ []) ⊎ HasNode (xs ++ ys)
HasNode-moved used [] a ys (inl i) = inl (HasNode-right used (a ∷ []) (inl i))
HasNode-moved used [] a ys (inr i) = inr i
HasNode-moved used (b ∷ xs) a ys (inl i) = inr (inl i)
HasNode-moved used (b ∷ xs) a ys (inr i) = elim (HasNode-moved used xs a ys i) [ inl k ↦ inl k | inr k ↦ inr (inr k) ]

-- a predicate's part of an anchored goal's heap is smaller than the heap
pub anchored_room : (x : Meaning) (s : Stack) (g : Goal) (before : List Atom) (atom : Atom) (after : List Atom) (pure : List Pure) (n : ℕ) →
    IsAnchored g → g.left ≡ plain (before ++ atom ∷ after) pure → atom.of ≡ Pred n →
    (hu rest : Heap) → AtomsHold x s hu g.used → AtomsHold x s rest (before ++ after) → 1 ≤ length hu + length rest
anchored_room x s g before atom after pure n anchored left_is of_is hu rest used others = elim anchored [
  | inl i ↦ let k = atoms_take x s g.used hu i used in omega arith
  | inr cases ↦
      let Q : Formula → Type 0 = λ f. AllByRecursion CaseIsAnchored f.cases in
      elim (subst Q left_is cases).0 [
        | inl node ↦ let k = atoms_take x s (before ++ after) rest (HasNode-others before atom after n of_is node) others in omega arith
        | inr empty ↦ absurd (not_none before atom after empty)
      ]
]
