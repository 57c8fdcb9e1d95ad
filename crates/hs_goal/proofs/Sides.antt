-- Sides of goals.
use Rattle.std.proofs.Common.{ℕ, ◌≤◌, List, refl, arith}
use Rattle.std.proofs.lemmas.List.Elements.{All-nil}
use Rattle.hs_pure.specs.declared.pure.Pure.{Pure}
use Rattle.hs_pure.specs.declared.var.Var.{Var}
use Rattle.hs_pure.proofs.Lists.{All-weaker}
use Rattle.hs_heap.specs.declared.formula.Disjunct.{Disjunct}
use Rattle.hs_heap.specs.declared.definitions.Defs.{Defs}
use Rattle.hs_heap.specs.WellFormed.{IsProper}
use Rattle.hs_heap.specs.Sound.{AtomFits, PureFits, DisjunctFits}
use Rattle.hs_goal.specs.Shape.{CaseFits}
use Rattle.hs_goal.specs.Laws.{FittingFormulasAreSides, SidesAreOfNext, StartIsWellFormed}

proper : (free : List Var) (next : ℕ) (p : Pure) → PureFits free next p → IsProper p
proper free next p f = record { ordered = f.formed.ordered; bags = f.formed.bags; binders = f.formed.binders; members = f.formed.members; plain = f.formed.plain }

case_fits : (defs : Defs) (free : List Var) (next : ℕ) (d : Disjunct) → DisjunctFits defs free next d → CaseFits defs next d
case_fits defs free next d f = record {
  numbers = λ v h. (f.numbers v h).1;
  atoms = f.atoms;
  distinct = f.distinct;
  flat = f.flat;
  pure = All-weaker (PureFits free next) IsProper (proper free next) d.pure f.pure;
}

pub fitting_formulas_are_sides : FittingFormulasAreSides
fitting_formulas_are_sides defs free next f h = All-weaker (DisjunctFits defs free next) (CaseFits defs next) (case_fits defs free next) f.cases h

later : (defs : Defs) (n m : ℕ) → n ≤ m → (d : Disjunct) → CaseFits defs n d → CaseFits defs m d
later defs n m le d f = record {
  numbers = λ v h. let less = f.numbers v h in omega arith;
  atoms = f.atoms;
  distinct = f.distinct;
  flat = f.flat;
  pure = f.pure;
}

pub sides_are_of_next : SidesAreOfNext
sides_are_of_next defs n m f le h = All-weaker (CaseFits defs n) (CaseFits defs m) (later defs n m le) f.cases h

pub start_is_well_formed : StartIsWellFormed
start_is_well_formed defs left opens right next fits_left fits_right some few below distinct apart = record {
  used = All-nil (AtomFits defs);
  used_numbers = λ v h. absurd cc;
  left = fits_left;
  right = fits_right;
  opens_numbers = below;
  few = few;
  distinct = distinct;
  apart_used = λ v h. refl;
  apart_left = apart;
  some = some;
}
