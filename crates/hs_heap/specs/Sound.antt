-- What is asked of definitions: the normal form of predicates and lemmas.
use Rattle.std.specs.Prelude.{◌≡◌, ℕ, zero, suc, ◌<◌, ◌≤◌, Bool, false, IsTrue, List, [], ◌∷◌, length, map, Option, Some, None, slice_get, option_map}
use Rattle.std.specs.List.{All}
use Rattle.hs_pure.specs.declared.var.Var.{Var}
use Rattle.hs_pure.specs.declared.pure.Pure.{Pure}
use Rattle.hs_pure.specs.Occurs.{is_free, is_bound, occurs}
use Rattle.hs_heap.specs.declared.formula.Of.{Of}
use Rattle.hs_heap.specs.declared.formula.Of.TheVariants.{Node, Pred}
use Rattle.hs_heap.specs.declared.formula.Atom.{Atom}
use Rattle.hs_heap.specs.declared.formula.Disjunct.{Disjunct}
use Rattle.hs_heap.specs.declared.formula.Formula.{Formula}
use Rattle.hs_heap.specs.declared.definitions.NodeDef.{NodeDef}
use Rattle.hs_heap.specs.declared.definitions.PredDef.{PredDef}
use Rattle.hs_heap.specs.declared.definitions.Lemma.{Lemma}
use Rattle.hs_heap.specs.declared.definitions.Defs.{Defs}
use Rattle.hs_heap.specs.declared.node.HeapNode.{HeapNode}
use Rattle.hs_heap.specs.Heap.{Heap}
use Rattle.hs_heap.specs.Meaning.{is_in, pred_at, self_var}
use Rattle.hs_heap.specs.Variables.{is_free_in_disjunct, occurs_in_disjunct}
use Rattle.hs_heap.specs.WellFormed.{is_and, IsWellFormed}

-- the number is at least 1 and below next
abbrev pub IsNumbered : ℕ → Var → Type 0
IsNumbered next v = (1 ≤ v.number) × (v.number < next)

-- each variable that passes the test is listed
abbrev pub AreAmong : (Var → Bool) → List Var → Type 0
AreAmong has vs = (v : Var) → IsTrue (has v) → IsTrue (is_in v vs)

-- no variable is listed twice
abbrev pub AreDistinct : List Var → Type 0
AreDistinct [] = Unit {0}
AreDistinct (v ∷ vs) = (is_in v vs ≡ false) × AreDistinct vs

-- the numbers are n, n + 1 and so on
abbrev pub AreNumberedFrom : ℕ → List Var → Type 0
AreNumberedFrom n [] = Unit {0}
AreNumberedFrom n (v ∷ vs) = (v.number ≡ n) × AreNumberedFrom (suc n) vs

-- the data type of a number from 1
abbrev pub node_at : Defs → ℕ → Option NodeDef
node_at defs zero = None
node_at defs (suc n) = slice_get defs.nodes n

abbrev pub kinds : List Var → List Bool
kinds vs = map (λ v. v.bag) vs

-- the kinds of the arguments of what is there: fields are numbers
abbrev pub argument_kinds : Defs → Of → Option (List Bool)
argument_kinds defs (Node n) = option_map (λ d. map (λ f. false) d.fields) (node_at defs n)
argument_kinds defs (Pred n) = option_map (λ p. kinds p.params) (pred_at defs n)

-- the root is a number, what the atom is of is there, and the arguments are as many and of the right kinds
abbrev pub AtomFits : Defs → Atom → Type 0
AtomFits defs a = (a.root.bag ≡ false) × (argument_kinds defs a.of ≡ Some (kinds a.args))

-- the data type is there, and there is a value for each field
abbrev pub NodeFits : Defs → HeapNode → Type 0
NodeFits defs n = option_map (λ d. length d.fields) (node_at defs n.of) ≡ Some (length n.values)

-- each node of a heap fits
abbrev pub HeapFits : Defs → Heap → Type 0
HeapFits defs h = All (λ e. NodeFits defs e.1) h

-- a pure formula beside the free variables of a formula
pub record PureFits (free : List Var) (next : ℕ) (p : Pure) : Type 0 where
  pub formed : IsWellFormed p
  -- quantifiers and AllOf bind none of the free variables
  pub apart : (u : Var) → IsTrue (is_bound u p) → is_in u free ≡ false
  -- all numbers, of bound variables too
  pub numbers : (v : Var) → IsTrue (occurs v p) → IsNumbered next v

-- a disjunct over the definitions whose free variables are among those listed
pub record DisjunctFits (defs : Defs) (free : List Var) (next : ℕ) (d : Disjunct) : Type 0 where
  pub distinct : AreDistinct d.bound
  -- it binds none of the free variables
  pub apart : (u : Var) → IsTrue (is_in u d.bound) → is_in u free ≡ false
  pub among : AreAmong (λ v. is_free_in_disjunct v d) free
  -- all numbers, of bound variables too
  pub numbers : (v : Var) → IsTrue (occurs_in_disjunct v d) → IsNumbered next v
  pub atoms : All (AtomFits defs) d.atoms
  pub pure : All (PureFits free next) d.pure
  -- no conjunct is an And
  pub flat : All (λ p. is_and p ≡ false) d.pure

abbrev pub FormulaFits : Defs → List Var → ℕ → Formula → Type 0
FormulaFits defs free next f = All (DisjunctFits defs free next) f.cases

-- a disjunct of a definition has at most 64 atoms
abbrev pub IsShort : Disjunct → Type 0
IsShort d = length d.atoms ≤ 64

-- `self` and the parameters are 1, 2, 3 and so on, and all numbers are below next, which is at most 1,024
pub record HeadFits (params : List Var) (next : ℕ) : Type 0 where
  pub params_follow : AreNumberedFrom 2 params
  pub numbers : All (IsNumbered next) (self_var ∷ params)
  pub bounded : next ≤ 1024

pub record PredIsSound (defs : Defs) (p : PredDef) : Type 0 where
  pub head : HeadFits p.params p.next
  pub body : FormulaFits defs (self_var ∷ p.params) p.next p.body
  pub cases : length p.body.cases ≤ 16
  pub short : All IsShort p.body.cases
  pub invariant : PureFits (self_var ∷ p.params) p.next p.inv
  pub invariant_among : AreAmong (λ v. is_free v p.inv) (self_var ∷ p.params)

pub record LemmaIsSound (defs : Defs) (l : Lemma) : Type 0 where
  pub head : HeadFits l.params l.next
  -- the predicate is there, and its parameters are as many and of the same kinds
  pub like : argument_kinds defs (Pred l.pred) ≡ Some (kinds l.params)
  pub right : DisjunctFits defs (self_var ∷ l.params) l.next l.right
  pub short : IsShort l.right

-- the predicates and the lemmas are of the normal form
pub record IsSound (defs : Defs) : Type 0 where
  pub preds : All (PredIsSound defs) defs.preds
  pub lemmas : All (LemmaIsSound defs) defs.lemmas
