-- Simple sides, and the classes of variables that equations join.
use Rattle.std.specs.Prelude.{◌≡◌, List, [], length, get_or}
use Rattle.std.specs.List.{Contains}
use Rattle.hs_pure.specs.declared.var.Var.{Var}
use Rattle.hs_pure.specs.declared.pure.Pure.{Pure}
use Rattle.hs_pure.specs.Equated.{equation}
use Rattle.hs_heap.specs.declared.formula.Disjunct.{Disjunct}
use Rattle.hs_heap.specs.declared.formula.Formula.{Formula}
use Rattle.hs_goal.specs.declared.goal.Goal.{Goal}

-- the disjunct that holds of the heap without nodes alone
abbrev pub nothing : Disjunct
nothing = record { bound = []; atoms = []; pure = [] }

-- the disjunct of a side that has one
abbrev pub the_case : Formula → Disjunct
the_case f = get_or f.cases 0 nothing

-- one disjunct, without bound variables
pub record IsSimple (f : Formula) : Type 0 where
  pub one : length f.cases ≡ 1
  pub unbound : (the_case f).bound ≡ []

-- the least equivalence on variables that joins the sides of each of these equations between two variables
pub data SameClass (ps : List Pure) : Var → Var → Type 0 where
  itself : {a : Var} → SameClass ps a a
  given : {a b : Var} → Contains ps (equation a b) → SameClass ps a b
  turned : {a b : Var} → SameClass ps a b → SameClass ps b a
  through : {a b c : Var} → SameClass ps a b → SameClass ps b c → SameClass ps a c

-- by the left conjuncts of a goal
abbrev pub InOneClass : Goal → Var → Var → Type 0
InOneClass g a b = SameClass (the_case g.left).pure a b
