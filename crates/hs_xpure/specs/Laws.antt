-- What the layers above use of approximations.
use Rattle.std.specs.Prelude.{◌≡◌, ℕ, ◌+◌, ◌^◌, ◌<◌, ◌≤◌, ◌⊎◌, IsTrue, List, [], ◌∷◌, Some}
use Rattle.std.specs.List.{All, list_any}
use Rattle.hs_pure.specs.declared.var.Var.{Var}
use Rattle.hs_pure.specs.declared.pure.Pure.{Pure}
use Rattle.hs_pure.specs.Stack.{Stack}
use Rattle.hs_pure.specs.Truth.{TrueAt}
use Rattle.hs_pure.specs.Occurs.{occurs, is_bags_plain}
use Rattle.hs_pure.specs.Sums.{IsOrdered}
use Rattle.hs_heap.specs.declared.formula.Atom.{Atom}
use Rattle.hs_heap.specs.declared.formula.Disjunct.{Disjunct}
use Rattle.hs_heap.specs.declared.definitions.PredDef.{PredDef}
use Rattle.hs_heap.specs.declared.definitions.Defs.{Defs}
use Rattle.hs_heap.specs.Heap.{Heap, IsHeap}
use Rattle.hs_heap.specs.Meaning.{self_var, pred_at, AllTrueAt, SatisfiesAtoms}
use Rattle.hs_heap.specs.Variables.{in_atom}
use Rattle.hs_heap.specs.Sound.{AtomFits, IsSound}
use Rattle.hs_heap.specs.Instance.{body_of_pred}
use Rattle.hs_xpure.specs.Approximation.{approximation_of, next_of, xpure_of, body_next}
use Rattle.hs_xpure.specs.Invariants.{pred_atom, invariant_premise, InvariantsHold, InvariantFollows}

-- v is the root or an argument of one of the atoms
abbrev pub IsInAtoms : List Atom → Var → Type 0
IsInAtoms atoms v = IsTrue (list_any (in_atom v) atoms)

-- what is approximated: atoms that fit, with numbers below n
pub record AtomsFit (defs : Defs) (atoms : List Atom) (n : ℕ) : Type 0 where
  pub each : All (AtomFits defs) atoms
  pub below : (v : Var) → IsInAtoms atoms v → v.number < n

-- the same of the atoms of each case
abbrev pub CasesFit : Defs → List Disjunct → ℕ → Type 0
CasesFit defs ds n = All (λ d. AtomsFit defs d.atoms n) ds

-- where invariants hold and a heap satisfies the atoms, the approximation is true, for some values of the
-- numbers from n on
abbrev pub ApproximationIsTrue : Type 0
ApproximationIsTrue = (defs : Defs) → IsSound defs → InvariantsHold defs →
    (level n : ℕ) (s : Stack) (h : Heap) (atoms : List Atom) → AtomsFit defs atoms n → IsHeap h → SatisfiesAtoms defs s h atoms →
    (t : Stack) × ((v : Var) → v.number < n → s v ≡ t v)
    × AllTrueAt t (approximation_of defs level atoms n) × TrueAt t (xpure_of defs level atoms n)

-- where each invariant follows from its body, invariants hold
abbrev pub InvariantsAreShown : Type 0
InvariantsAreShown = (defs : Defs) → IsSound defs → All (InvariantFollows defs) defs.preds → InvariantsHold defs

-- the number is from n on and below m
abbrev pub IsBetween : ℕ → ℕ → Var → Type 0
IsBetween n m v = (n ≤ v.number) × (v.number < m)

-- what occurs in the approximation is of the atoms, or new
abbrev pub NewNumbersAreInRange : Type 0
NewNumbersAreInRange = (defs : Defs) → IsSound defs → (level n : ℕ) (atoms : List Atom) → AtomsFit defs atoms n →
    (n ≤ next_of defs level atoms n)
    × All (λ p. (v : Var) → IsTrue (occurs v p) → IsInAtoms atoms v ⊎ IsBetween n (next_of defs level atoms n) v) (approximation_of defs level atoms n)

-- the sums of the formula are in order, and none of its bag literals stands under a quantifier or an AllOf
pub record CanBeAsked (p : Pure) : Type 0 where
  pub ordered : IsOrdered p
  pub plain : IsTrue (is_bags_plain p)

-- its numbers leave room for those that deciding takes
abbrev pub HasLowNumbers : Pure → Type 0
HasLowNumbers p = (v : Var) → IsTrue (occurs v p) → v.number < 2 ^ 31

-- the sums of the approximation are in order
abbrev pub ApproximationIsOrdered : Type 0
ApproximationIsOrdered = (defs : Defs) → IsSound defs → (level n : ℕ) (atoms : List Atom) → All (AtomFits defs) atoms →
    All IsOrdered (approximation_of defs level atoms n) × IsOrdered (xpure_of defs level atoms n)

-- no bag literal of the approximation stands under a quantifier
abbrev pub ApproximationIsPlain : Type 0
ApproximationIsPlain = (defs : Defs) → IsSound defs → (level n : ℕ) (atoms : List Atom) → All (AtomFits defs) atoms →
    All (λ p. IsTrue (is_bags_plain p)) (approximation_of defs level atoms n) × IsTrue (is_bags_plain (xpure_of defs level atoms n))

-- the question that shows an invariant may be asked
abbrev pub PremiseCanBeAsked : Type 0
PremiseCanBeAsked = (defs : Defs) → IsSound defs → (pred : ℕ) (p : PredDef) → pred_at defs pred ≡ Some p →
    CanBeAsked (invariant_premise defs p) × CanBeAsked p.inv

-- and has low numbers
abbrev pub PremiseIsLow : Type 0
PremiseIsLow = (defs : Defs) → IsSound defs → (pred : ℕ) (p : PredDef) → pred_at defs pred ≡ Some p →
    HasLowNumbers (invariant_premise defs p) × HasLowNumbers p.inv

-- the premise can be formed: the predicate at `self` and its own parameters fits, with numbers below a small next
abbrev pub PremiseCanBeFormed : Type 0
PremiseCanBeFormed = (defs : Defs) → IsSound defs → (pred : ℕ) (p : PredDef) → pred_at defs pred ≡ Some p →
    AtomsFit defs (pred_atom pred self_var p.params ∷ []) p.next × (p.next ≤ 2 ^ 30)

-- the premise takes at most 2^21 numbers
abbrev pub PremiseTakesFew : Type 0
PremiseTakesFew = (defs : Defs) → IsSound defs → (pred : ℕ) (p : PredDef) → pred_at defs pred ≡ Some p →
    body_next defs 0 (body_of_pred p) self_var p.params p.next ≤ p.next + 2 ^ 21
