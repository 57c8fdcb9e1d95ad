-- What is asked of the parts of a goal.
use Rattle.std.specs.Prelude.{◌≡◌, ℕ, ◌<◌, nat_lt, Bool, false, ◌&&◌, List}
use Rattle.std.specs.List.{list_any, list_all, All}
use Rattle.hs_pure.specs.declared.var.Var.{Var}
use Rattle.hs_pure.specs.declared.pure.Pure.{Pure}
use Rattle.hs_heap.specs.declared.formula.Atom.{Atom}
use Rattle.hs_heap.specs.declared.formula.Disjunct.{Disjunct}
use Rattle.hs_heap.specs.declared.definitions.Defs.{Defs}
use Rattle.hs_heap.specs.Variables.{in_atom, is_free_in_formula, occurs_in_disjunct}
use Rattle.hs_heap.specs.WellFormed.{is_and, IsProper}
use Rattle.hs_heap.specs.Sound.{AtomFits, AreDistinct}
use Rattle.hs_goal.specs.declared.goal.Goal.{Goal}
use Rattle.hs_goal.specs.Shape.{AreBelow, SideFits}

-- whether all numbers of variables are below next
abbrev pub vars_are_below : ℕ → List Var → Bool
vars_are_below next vs = list_all (λ v. nat_lt v.number next) vs

abbrev pub atom_is_below : ℕ → Atom → Bool
atom_is_below next a = nat_lt a.root.number next && vars_are_below next a.args

-- ---- of a disjunct

abbrev pub NamesFit : ℕ → Disjunct → Type 0
NamesFit next d = AreBelow next (λ v. occurs_in_disjunct v d) × AreDistinct d.bound

abbrev pub ConjunctFits : Pure → Type 0
ConjunctFits p = (is_and p ≡ false) × IsProper p

abbrev pub ItemsFit : Defs → Disjunct → Type 0
ItemsFit defs d = All (AtomFits defs) d.atoms × All ConjunctFits d.pure

-- ---- of a goal

-- a used atom
abbrev pub UsedFits : Defs → ℕ → Atom → Type 0
UsedFits defs next a = AtomFits defs a × AreBelow next (λ v. in_atom v a)

-- an open variable
abbrev pub OpenFits : Goal → Var → Type 0
OpenFits g v = (v.number < g.next) × ((list_any (in_atom v) g.used ≡ false) × (is_free_in_formula v g.left ≡ false))

abbrev pub OpensFit : Goal → Type 0
OpensFit g = AreDistinct g.opens × All (OpenFits g) g.opens

abbrev pub OwnPartsFit : Defs → Goal → Type 0
OwnPartsFit defs g = All (UsedFits defs g.next) g.used × OpensFit g

abbrev pub SidesFit : Defs → Goal → Type 0
SidesFit defs g = SideFits defs g.next g.left × SideFits defs g.next g.right

abbrev pub PartsFit : Defs → Goal → Type 0
PartsFit defs g = OwnPartsFit defs g × SidesFit defs g
