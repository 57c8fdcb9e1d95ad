-- What the layers above use of formulas and definitions.
use Rattle.std.specs.Prelude.{◌≡◌, ◌↔◌, ◌⊎◌, ℕ, ◌<◌, ◌≤◌, false, IsTrue, List, ◌∷◌, map}
use Rattle.std.specs.List.{All, list_any}
use Rattle.hs_pure.specs.declared.var.Var.{Var}
use Rattle.hs_pure.specs.declared.pure.Pure.{Pure}
use Rattle.hs_pure.specs.Stack.{Stack}
use Rattle.hs_pure.specs.Truth.{TrueAt}
use Rattle.hs_pure.specs.Occurs.{is_free, is_bound, occurs}
use Rattle.hs_pure.specs.Sums.{IsOrdered, KeepsKinds}
use Rattle.hs_heap.specs.declared.formula.Of.{Of}
use Rattle.hs_heap.specs.declared.formula.Atom.{Atom}
use Rattle.hs_heap.specs.declared.formula.Disjunct.{Disjunct}
use Rattle.hs_heap.specs.declared.formula.Formula.{Formula}
use Rattle.hs_heap.specs.declared.definitions.PredDef.{PredDef}
use Rattle.hs_heap.specs.declared.definitions.Defs.{Defs}
use Rattle.hs_heap.specs.Heap.{Heap}
use Rattle.hs_heap.specs.Meaning.{argument_at, is_in, pred_at, meaning_at_depth, AllTrueAt, AtomsHold, SatisfiesAtDepth}
use Rattle.hs_heap.specs.Variables.{in_atom, occurs_in_disjunct, is_free_in_formula, occurs_in_formula}
use Rattle.hs_heap.specs.WellFormed.{IsProper}
use Rattle.hs_heap.specs.Sound.{IsSound}
use Rattle.hs_heap.specs.Renamed.{renamed_formula, is_bound_in_formula, DisjunctKeepsApart, FormulaKeepsApart, DisjunctInRange, IsImage}
use Rattle.hs_heap.specs.Instance.{Body, BodyFits, ArgumentsFit, body_of, body_of_inv, body_of_lemma, body_or_none, lemma_at, instantiated, instantiated_inv, next_after, stack_of_body}

-- ---- stacks

-- stacks that agree on variables give one list of arguments
abbrev pub ArgumentsAreOfVariables : Type 0
ArgumentsAreOfVariables = (vs : List Var) (s t : Stack) → ((v : Var) → IsTrue (is_in v vs) → s v ≡ t v) → map (argument_at s) vs ≡ map (argument_at t) vs

-- stacks that agree on the free variables of conjuncts make the same of them true
abbrev pub ConjunctsAreOfFree : Type 0
ConjunctsAreOfFree = (ps : List Pure) (s t : Stack) → ((v : Var) → IsTrue (list_any (is_free v) ps) → s v ≡ t v) → AllTrueAt s ps ↔ AllTrueAt t ps

-- stacks that agree on the variables of atoms give them one meaning
abbrev pub AtomsAreOfVariables : Type 0
AtomsAreOfVariables = (defs : Defs) (k : ℕ) (atoms : List Atom) (s t : Stack) (h : Heap) → ((v : Var) → IsTrue (list_any (in_atom v) atoms) → s v ≡ t v) →
    AtomsHold (meaning_at_depth defs k) s h atoms ↔ AtomsHold (meaning_at_depth defs k) t h atoms

-- stacks that agree on the free variables of a formula satisfy it with the same heaps
abbrev pub SatisfactionIsOfFree : Type 0
SatisfactionIsOfFree = (defs : Defs) (k : ℕ) (f : Formula) (s t : Stack) (h : Heap) → ((v : Var) → IsTrue (is_free_in_formula v f) → s v ≡ t v) →
    SatisfiesAtDepth defs k s h f ↔ SatisfiesAtDepth defs k t h f

-- roots are number variables, and the kinds of the conjuncts fit
pub record HasKinds (d : Disjunct) : Type 0 where
  pub roots : All (λ (a : Atom). a.root.bag ≡ false) d.atoms
  pub pure : All IsProper d.pure

-- where kinds fit, it is enough that they agree on the parts of the variables' own kinds
abbrev pub SatisfactionIsOfKinds : Type 0
SatisfactionIsOfKinds = (defs : Defs) (k : ℕ) (f : Formula) (s t : Stack) (h : Heap) → All HasKinds f.cases → ((v : Var) → IsTrue (is_free_in_formula v f) → argument_at s v ≡ argument_at t v) →
    SatisfiesAtDepth defs k s h f ↔ SatisfiesAtDepth defs k t h f

-- ---- renaming

-- what is bound occurs
abbrev pub BoundOccurs : Type 0
BoundOccurs = (p : Pure) (v : Var) → IsTrue (is_bound v p) → IsTrue (occurs v p)

-- a renaming that keeps apart what occurs in a formula in order may rename it
abbrev pub ApartMayRename : Type 0
ApartMayRename = (ρ : Var → Var) (d : Disjunct) → All IsOrdered d.pure →
    ((u v : Var) → IsTrue (occurs_in_disjunct u d) → IsTrue (occurs_in_disjunct v d) → ρ u ≡ ρ v → u ≡ v) → DisjunctKeepsApart ρ d × DisjunctInRange ρ d

-- a renamed formula is satisfied where the formula is at the stack before the renaming
abbrev pub RenamedIsSatisfied : Type 0
RenamedIsSatisfied = (ρ : Var → Var) (f : Formula) → KeepsKinds ρ → FormulaKeepsApart ρ f → (defs : Defs) (k : ℕ) (s : Stack) (h : Heap) →
    SatisfiesAtDepth defs k s h (renamed_formula ρ f) ↔ SatisfiesAtDepth defs k (λ v. s (ρ v)) h f

-- what is free in a renamed formula is what a free variable becomes, and so for what is bound and what occurs
abbrev pub RenamedVariables : Type 0
RenamedVariables = (ρ : Var → Var) (f : Formula) (v : Var) →
    (IsTrue (is_free_in_formula v (renamed_formula ρ f)) → IsImage ρ (λ w. is_free_in_formula w f) v)
    × (IsTrue (is_bound_in_formula v (renamed_formula ρ f)) → IsImage ρ (λ w. is_bound_in_formula w f) v)
    × (IsTrue (occurs_in_formula v (renamed_formula ρ f)) → IsImage ρ (λ w. occurs_in_formula w f) v)

-- ---- bodies

-- the bodies, invariants and lemmas of sound definitions fit
abbrev pub SoundBodiesFit : Type 0
SoundBodiesFit = (defs : Defs) → IsSound defs → ((o : Of) → BodyFits defs (body_of defs o))
    × ((n : ℕ) → BodyFits defs (body_or_none body_of_inv (pred_at defs n)))
    × ((n : ℕ) → BodyFits defs (body_or_none body_of_lemma (lemma_at defs n)))

-- an instantiated body is satisfied where the body is at the values of the root and the arguments
abbrev pub InstantiatedMeansBody : Type 0
InstantiatedMeansBody = (defs : Defs) (b : Body) (root : Var) (args : List Var) (fresh : ℕ) → BodyFits defs b → ArgumentsFit b.params root args fresh →
    (k : ℕ) (s : Stack) (h : Heap) →
    SatisfiesAtDepth defs k s h (instantiated b root args fresh) ↔ SatisfiesAtDepth defs k (stack_of_body b (s root).number (map (argument_at s) args)) h b.formula

-- an instantiated invariant is true where the invariant is at the values of the root and the arguments
abbrev pub InstantiatedMeansInvariant : Type 0
InstantiatedMeansInvariant = (defs : Defs) (p : PredDef) (root : Var) (args : List Var) (fresh : ℕ) → BodyFits defs (body_of_inv p) → ArgumentsFit p.params root args fresh →
    (s : Stack) → TrueAt s (instantiated_inv p root args fresh) ↔ TrueAt (stack_of_body (body_of_inv p) (s root).number (map (argument_at s) args)) p.inv

-- a number from fresh on and below what follows the last one taken
abbrev pub IsNew : Body → ℕ → Var → Type 0
IsNew b fresh v = (fresh ≤ v.number) × (v.number < next_after b fresh)

-- what an instantiated body binds has a new number, what is free in it is the root or an argument, and nothing else occurs
abbrev pub InstantiatedBindsNew : Type 0
InstantiatedBindsNew = (defs : Defs) (b : Body) (root : Var) (args : List Var) (fresh : ℕ) → BodyFits defs b → ArgumentsFit b.params root args fresh → (v : Var) →
    (IsTrue (is_bound_in_formula v (instantiated b root args fresh)) → IsNew b fresh v)
    × (IsTrue (is_free_in_formula v (instantiated b root args fresh)) → IsTrue (is_in v (root ∷ args)))
    × (IsTrue (occurs_in_formula v (instantiated b root args fresh)) → IsTrue (is_in v (root ∷ args)) ⊎ IsNew b fresh v)
