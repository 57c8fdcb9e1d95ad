-- The texts of formulas of heaps.
use Rattle.std.specs.Prelude.{ℕ, zero, suc, List, [], ◌∷◌, ◌++◌, codes, Option, Some, None, slice_get}
use Rattle.hs_pure.specs.declared.var.Var.{Var}
use Rattle.hs_heap.specs.declared.formula.Of.{Of}
use Rattle.hs_heap.specs.declared.formula.Of.TheVariants.{Node, Pred}
use Rattle.hs_heap.specs.declared.formula.Atom.{Atom}
use Rattle.hs_heap.specs.declared.formula.Disjunct.{Disjunct}
use Rattle.hs_heap.specs.declared.formula.Formula.{Formula}
use Rattle.hs_heap.specs.declared.definitions.NodeDef.{NodeDef}
use Rattle.hs_heap.specs.declared.definitions.PredDef.{PredDef}
use Rattle.hs_heap.specs.declared.definitions.Defs.{Defs}
use Rattle.hs_print.specs.Lists.{each_after, separated}
use Rattle.hs_print.specs.Variable.{Naming, variable_text}
use Rattle.hs_print.specs.Pure.{member_text}

-- the item of a number from 1
abbrev pub numbered : {A : Type 0} → List A → ℕ → Option A
numbered xs zero = None
numbered xs (suc k) = slice_get xs k

abbrev pub node_name : Option NodeDef → List ℕ
node_name None = []
node_name (Some node) = node.name

abbrev pub pred_name : Option PredDef → List ℕ
pred_name None = []
pred_name (Some pred) = pred.name

-- the name of a data type or predicate; what is not there has none
abbrev pub of_text : Defs → Of → List ℕ
of_text defs (Node k) = node_name (numbered defs.nodes k)
of_text defs (Pred k) = pred_name (numbered defs.preds k)

abbrev pub variables_text : Naming → List Var → List ℕ
variables_text names vs = separated (codes ", ") (variable_text names) vs

abbrev pub atom_text : Defs → Naming → Atom → List ℕ
atom_text defs names a =
    variable_text names a.root ++ (codes "::" ++ (of_text defs a.of ++ (codes "<" ++ (variables_text names a.args ++ codes ">"))))

abbrev pub atoms_text : Defs → Naming → List Atom → List ℕ
atoms_text defs names [] = codes "emp"
atoms_text defs names (a ∷ atoms) = separated (codes " * ") (atom_text defs names) (a ∷ atoms)

abbrev pub bound_text : Naming → List Var → List ℕ
bound_text names [] = []
bound_text names (v ∷ vs) = codes "exists " ++ (variables_text names (v ∷ vs) ++ codes ". ")

abbrev pub disjunct_text : Defs → Naming → Disjunct → List ℕ
disjunct_text defs names d =
    bound_text names d.bound ++ (atoms_text defs names d.atoms ++ each_after (codes " & ") (member_text names) d.pure)

abbrev pub cases_text : Defs → Naming → List Disjunct → List ℕ
cases_text defs names [] = codes "none"
cases_text defs names (d ∷ ds) = separated (codes " or ") (disjunct_text defs names) (d ∷ ds)

abbrev pub formula_text : Defs → Naming → Formula → List ℕ
formula_text defs names f = cases_text defs names f.cases
