-- When invariants hold, and the question that shows it of one.
use Rattle.std.specs.Prelude.{◌≡◌, ℕ, List, [], ◌∷◌, map, Some}
use Rattle.hs_pure.specs.Stack.{Stack}
use Rattle.hs_pure.specs.Truth.{TrueAt}
use Rattle.hs_pure.specs.declared.var.Var.{Var}
use Rattle.hs_pure.specs.declared.pure.Pure.{Pure}
use Rattle.hs_heap.specs.declared.formula.Of.TheVariants.{Pred}
use Rattle.hs_heap.specs.declared.formula.Atom.{Atom}
use Rattle.hs_heap.specs.declared.definitions.PredDef.{PredDef}
use Rattle.hs_heap.specs.declared.definitions.Defs.{Defs}
use Rattle.hs_heap.specs.Heap.{Heap, IsHeap}
use Rattle.hs_heap.specs.Meaning.{self_var, pred_at, body_stack, argument_at, SatisfiesAtoms}
use Rattle.hs_heap.specs.Sound.{AtomFits}
use Rattle.hs_heap.specs.Instance.{body_of_pred}
use Rattle.hs_xpure.specs.Approximation.{body_pure}

-- a predicate at a root and arguments
abbrev pub pred_atom : ℕ → Var → List Var → Atom
pred_atom pred root args = record { root = root; of = Pred pred; args = args }

-- every stack and heap that satisfy a predicate's atom make its invariant true at the root and the arguments
abbrev pub InvariantsHold : Defs → Type 0
InvariantsHold defs = (pred : ℕ) (p : PredDef) → pred_at defs pred ≡ Some p →
    (s : Stack) (h : Heap) (root : Var) (args : List Var) → AtomFits defs (pred_atom pred root args) → IsHeap h →
    SatisfiesAtoms defs s h (pred_atom pred root args ∷ []) →
    TrueAt (body_stack p (s root).number (map (argument_at s) args)) p.inv

-- what is true of a predicate's body at `self` and the parameters, level 0
abbrev pub invariant_premise : Defs → PredDef → Pure
invariant_premise defs p = body_pure defs 0 (body_of_pred p) self_var p.params p.next

-- it implies the invariant
abbrev pub InvariantFollows : Defs → PredDef → Type 0
InvariantFollows defs p = (s : Stack) → TrueAt s (invariant_premise defs p) → TrueAt s p.inv
