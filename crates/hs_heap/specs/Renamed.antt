-- Formulas with variables in the place of others, bound ones too.
use Rattle.std.specs.Prelude.{◌≡◌, Bool, ◌||◌, IsTrue, map}
use Rattle.std.specs.List.{list_any, All}
use Rattle.hs_pure.specs.declared.var.Var.{Var}
use Rattle.hs_pure.specs.Occurs.{is_bound}
use Rattle.hs_pure.specs.Rename.{renamed, InRange}
use Rattle.hs_heap.specs.declared.formula.Atom.{Atom}
use Rattle.hs_heap.specs.declared.formula.Disjunct.{Disjunct}
use Rattle.hs_heap.specs.declared.formula.Formula.{Formula}
use Rattle.hs_heap.specs.Meaning.{is_in}
use Rattle.hs_heap.specs.Variables.{occurs_in_disjunct}

module _ (ρ : Var → Var) where
  abbrev pub renamed_atom : Atom → Atom
  renamed_atom a = record { root = ρ a.root; of = a.of; args = map ρ a.args }

  abbrev pub renamed_disjunct : Disjunct → Disjunct
  renamed_disjunct d = record { bound = map ρ d.bound; atoms = map renamed_atom d.atoms; pure = map (renamed ρ) d.pure }

  -- the formula with ρ v in the place of each v
  abbrev pub renamed_formula : Formula → Formula
  renamed_formula f = record { cases = map renamed_disjunct f.cases }

-- whether v is bound in a disjunct, by itself or inside of a conjunct
abbrev pub is_bound_in_disjunct : Var → Disjunct → Bool
is_bound_in_disjunct v d = is_in v d.bound || list_any (is_bound v) d.pure

abbrev pub is_bound_in_formula : Var → Formula → Bool
is_bound_in_formula v f = list_any (is_bound_in_disjunct v) f.cases

-- no two different variables of the disjunct, of which one is bound in it, become one
abbrev pub DisjunctKeepsApart : (Var → Var) → Disjunct → Type 0
DisjunctKeepsApart ρ d = (u v : Var) → IsTrue (is_bound_in_disjunct u d) → IsTrue (occurs_in_disjunct v d) → ρ u ≡ ρ v → u ≡ v

abbrev pub FormulaKeepsApart : (Var → Var) → Formula → Type 0
FormulaKeepsApart ρ f = All (DisjunctKeepsApart ρ) f.cases

-- v is what a variable that passes the test becomes
abbrev pub IsImage : (Var → Var) → (Var → Bool) → Var → Type 0
IsImage ρ test v = (w : Var) × (IsTrue (test w)) × (v ≡ ρ w)

-- what the terms of each sum of the disjunct add up to, one after another, are numbers of the program
abbrev pub DisjunctInRange : (Var → Var) → Disjunct → Type 0
DisjunctInRange ρ d = All (InRange ρ) d.pure

abbrev pub FormulaInRange : (Var → Var) → Formula → Type 0
FormulaInRange ρ f = All (DisjunctInRange ρ) f.cases
