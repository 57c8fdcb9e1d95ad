-- When a heap satisfies a formula.
use Rattle.std.specs.Prelude.{◌≡◌, ℕ, zero, suc, ℤ, pos, ◌<ℤ◌, ◌⊎◌, Bool, false, if◌then◌else◌, ◌||◌, List, [], ◌∷◌, map, Option, Some, None, slice_get}
use Rattle.hs_pure.specs.Multiset.{Multiset}
use Rattle.hs_pure.specs.Stack.{Value, Stack, same, with_value, number_value, bag_value}
use Rattle.hs_pure.specs.Truth.{TrueAt}
use Rattle.hs_pure.specs.declared.var.Var.{Var}
use Rattle.hs_pure.specs.declared.pure.Pure.{Pure}
use Rattle.hs_heap.specs.declared.formula.Of.{Of}
use Rattle.hs_heap.specs.declared.formula.Of.TheVariants.{Node, Pred}
use Rattle.hs_heap.specs.declared.formula.Atom.{Atom}
use Rattle.hs_heap.specs.declared.formula.Disjunct.{Disjunct}
use Rattle.hs_heap.specs.declared.formula.Formula.{Formula}
use Rattle.hs_heap.specs.declared.definitions.PredDef.{PredDef}
use Rattle.hs_heap.specs.declared.definitions.Defs.{Defs}
use Rattle.hs_heap.specs.Heap.{Heap, Parts}

-- the value of an argument: of its variable's kind alone
pub data Argument : Type 0 where
  Number : (n : ℤ) → Argument
  Elements : (m : Multiset) → Argument

abbrev pub argument_at : Stack → Var → Argument
argument_at s v = if v.bag then Elements (s v).bag else Number (s v).number

-- an argument as the value of a field
abbrev pub field_value : Argument → ℤ
field_value (Number n) = n
field_value (Elements m) = pos 0

-- an argument as the value of a parameter
abbrev pub parameter_value : Argument → Value
parameter_value (Number n) = number_value n
parameter_value (Elements m) = bag_value m

-- whether v is one of these
abbrev pub is_in : Var → List Var → Bool
is_in v [] = false
is_in v (w ∷ ws) = same v w || is_in v ws

-- t differs from s on these variables at most
pub record SameBut (vs : List Var) (s t : Stack) : Type 0 where
  pub same : (v : Var) → is_in v vs ≡ false → t v ≡ s v

-- what predicates mean: of which heaps each holds, by the values of its root and its arguments
abbrev pub Meaning : Type 1
Meaning = ℕ → ℤ → List Argument → Heap → Type 0

abbrev pub AllTrueAt : Stack → List Pure → Type 0
AllTrueAt s [] = Unit {0}
AllTrueAt s (p ∷ ps) = TrueAt s p × AllTrueAt s ps

-- a data type holds of exactly one node, at a positive root, with the arguments as field values
abbrev pub OfHolds : Meaning → Of → ℤ → List Argument → Heap → Type 0
OfHolds x (Node kind) root args h =
    (h ≡ (root, record { of = kind; values = map field_value args }) ∷ []) × (pos 0 <ℤ root)
OfHolds x (Pred pred) root args h = x pred root args h

abbrev pub AtomHolds : Meaning → Stack → Heap → Atom → Type 0
AtomHolds x s h a = OfHolds x a.of (s a.root).number (map (argument_at s) a.args) h

-- the heap is the disjoint union of one part per atom
abbrev pub AtomsHold : Meaning → Stack → Heap → List Atom → Type 0
AtomsHold x s h [] = h ≡ []
AtomsHold x s h (a ∷ rest) = (h1 h2 : Heap) × Parts h h1 h2 × AtomHolds x s h1 a × AtomsHold x s h2 rest

-- for some values of the bound variables
pub record DisjunctHolds (x : Meaning) (s : Stack) (h : Heap) (d : Disjunct) : Type 0 where
  pub at : Stack
  pub same : SameBut d.bound s at
  pub pure : AllTrueAt at d.pure
  pub atoms : AtomsHold x at h d.atoms

abbrev pub SomeHolds : Meaning → Stack → Heap → List Disjunct → Type 0
SomeHolds x s h [] = ⊥
SomeHolds x s h (d ∷ ds) = DisjunctHolds x s h d ⊎ SomeHolds x s h ds

abbrev pub FormulaHolds : Meaning → Stack → Heap → Formula → Type 0
FormulaHolds x s h f = SomeHolds x s h f.cases

-- the predicate of a number from 1
abbrev pub pred_at : Defs → ℕ → Option PredDef
pred_at defs zero = None
pred_at defs (suc n) = slice_get defs.preds n

-- the values of the parameters
abbrev pub with_arguments : List Var → List Argument → Stack → Stack
with_arguments [] args s = s
with_arguments (v ∷ vs) [] s = s
with_arguments (v ∷ vs) (a ∷ args) s = with_value v (parameter_value a) (with_arguments vs args s)

-- the root of a predicate's body
abbrev pub self_var : Var
self_var = record { number = 1; bag = false }

-- the stack of a body: its root and its parameters
abbrev pub body_stack : PredDef → ℤ → List Argument → Stack
body_stack p root args =
    with_value self_var (number_value root) (with_arguments p.params args (λ v. number_value (pos 0)))

-- a body at a root and arguments; a predicate that is not there holds of no heap
abbrev pub BodyHolds : Meaning → Option PredDef → ℤ → List Argument → Heap → Type 0
BodyHolds x None root args h = ⊥
BodyHolds x (Some p) root args h = FormulaHolds x (body_stack p root args) h p.body

-- what predicates mean where they are unfolded at most k deep
abbrev pub meaning_at_depth : Defs → ℕ → Meaning
meaning_at_depth defs zero pred root args h = ⊥
meaning_at_depth defs (suc k) pred root args h = BodyHolds (meaning_at_depth defs k) (pred_at defs pred) root args h

-- the heap satisfies the formula with predicates unfolded at most k deep
abbrev pub SatisfiesAtDepth : Defs → ℕ → Stack → Heap → Formula → Type 0
SatisfiesAtDepth defs k s h f = FormulaHolds (meaning_at_depth defs k) s h f

-- at some depth: predicates mean the least fixpoint of their bodies
abbrev pub Satisfies : Defs → Stack → Heap → Formula → Type 0
Satisfies defs s h f = (k : ℕ) × SatisfiesAtDepth defs k s h f

-- the heap is the disjoint union of parts that satisfy the atoms, one each
abbrev pub SatisfiesAtoms : Defs → Stack → Heap → List Atom → Type 0
SatisfiesAtoms defs s h atoms = (k : ℕ) × AtomsHold (meaning_at_depth defs k) s h atoms
