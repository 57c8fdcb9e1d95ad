-- The variables of formulas.
use Rattle.std.specs.Prelude.{ℕ, max, Bool, not, ◌&&◌, ◌||◌, List}
use Rattle.std.specs.List.{list_any, fold}
use Rattle.hs_pure.specs.declared.var.Var.{Var}
use Rattle.hs_pure.specs.declared.pure.Pure.{Pure}
use Rattle.hs_pure.specs.Stack.{same}
use Rattle.hs_pure.specs.Occurs.{is_free, occurs, top_of}
use Rattle.hs_heap.specs.declared.formula.Atom.{Atom}
use Rattle.hs_heap.specs.declared.formula.Disjunct.{Disjunct}
use Rattle.hs_heap.specs.declared.formula.Formula.{Formula}
use Rattle.hs_heap.specs.Meaning.{is_in}

module _ (v : Var) where
  -- whether v is the root or an argument
  abbrev pub in_atom : Atom → Bool
  in_atom a = same v a.root || is_in v a.args

  -- whether v occurs in a disjunct and is not bound there
  abbrev pub is_free_in_disjunct : Disjunct → Bool
  is_free_in_disjunct d = not (is_in v d.bound) && (list_any in_atom d.atoms || list_any (is_free v) d.pure)

  -- whether v is free in one of the disjuncts
  abbrev pub is_free_in_formula : Formula → Bool
  is_free_in_formula f = list_any is_free_in_disjunct f.cases

  -- whether v occurs in a disjunct, bound or free
  abbrev pub occurs_in_disjunct : Disjunct → Bool
  occurs_in_disjunct d = is_in v d.bound || (list_any in_atom d.atoms || list_any (occurs v) d.pure)

  -- whether v occurs in one of the disjuncts, bound or free
  abbrev pub occurs_in_formula : Formula → Bool
  occurs_in_formula f = list_any occurs_in_disjunct f.cases

-- ---- the greatest number that occurs, also of bound variables, or 0

abbrev pub vars_top : List Var → ℕ
vars_top vs = fold (λ top v. max top v.number) 0 vs

abbrev pub atom_top : Atom → ℕ
atom_top a = max a.root.number (vars_top a.args)

abbrev pub atoms_top : List Atom → ℕ
atoms_top atoms = fold (λ top a. max top (atom_top a)) 0 atoms

abbrev pub conjuncts_top : List Pure → ℕ
conjuncts_top ps = fold (λ top p. max top (top_of p)) 0 ps

abbrev pub disjunct_top : Disjunct → ℕ
disjunct_top d = max (vars_top d.bound) (max (atoms_top d.atoms) (conjuncts_top d.pure))

abbrev pub disjuncts_top : List Disjunct → ℕ
disjuncts_top ds = fold (λ top d. max top (disjunct_top d)) 0 ds
