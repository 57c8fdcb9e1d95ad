-- Founded definitions: each unfolding takes a node first.
use Rattle.std.specs.Prelude.{◌≡◌, ◌⊎◌, Bool, true, false, not, ◌&&◌, List, [], ◌∷◌, count_by}
use Rattle.std.specs.List.{All, Contains, list_any}
use Rattle.hs_pure.specs.declared.var.Var.{Var}
use Rattle.hs_pure.specs.Stack.{same}
use Rattle.hs_pure.specs.Equated.{equation}
use Rattle.hs_heap.specs.declared.formula.Of.{Of}
use Rattle.hs_heap.specs.declared.formula.Of.TheVariants.{Node, Pred}
use Rattle.hs_heap.specs.declared.formula.Atom.{Atom}
use Rattle.hs_heap.specs.declared.formula.Disjunct.{Disjunct}
use Rattle.hs_heap.specs.declared.definitions.PredDef.{PredDef}
use Rattle.hs_heap.specs.declared.definitions.Defs.{Defs}
use Rattle.hs_heap.specs.Meaning.{self_var}

abbrev pub is_node : Of → Bool
is_node (Node n) = true
is_node (Pred n) = false

-- the names of a predicate: `self` and the parameters
abbrev pub names_of : PredDef → List Var
names_of p = self_var ∷ p.params

-- what is reached in a case: the names, the arguments of a node with a reached root, and what a conjunct equates
-- with a reached variable
pub data IsReached (names : List Var) (d : Disjunct) : Var → Type 0 where
  named : {v : Var} → Contains names v → IsReached names d v
  argument : {v : Var} (a : Atom) → Contains d.atoms a → is_node a.of ≡ true → IsReached names d a.root → Contains a.args v → IsReached names d v
  equal : {v : Var} (w : Var) → Contains d.pure (equation v w) → IsReached names d w → IsReached names d v
  equated : {v : Var} (w : Var) → Contains d.pure (equation w v) → IsReached names d w → IsReached names d v

abbrev pub is_root_predicate : Atom → Bool
is_root_predicate a = not (is_node a.of) && same a.root self_var

abbrev pub is_root_node : Atom → Bool
is_root_node a = is_node a.of && same a.root self_var

-- the case has no atom, or exactly one node at `self`
abbrev pub HasOneRoot : List Atom → Type 0
HasOneRoot atoms = (atoms ≡ []) ⊎ (count_by is_root_node atoms ≡ 1)

pub record CaseIsFounded (names : List Var) (d : Disjunct) : Type 0 where
  -- no predicate has the root `self`
  pub no_predicate : list_any is_root_predicate d.atoms ≡ false
  pub one_root : HasOneRoot d.atoms
  -- every atom hangs on what is reached
  pub reached : All (λ a. IsReached names d a.root) d.atoms

abbrev pub PredIsFounded : PredDef → Type 0
PredIsFounded p = All (CaseIsFounded (names_of p)) p.body.cases

abbrev pub IsFounded : Defs → Type 0
IsFounded defs = All PredIsFounded defs.preds
