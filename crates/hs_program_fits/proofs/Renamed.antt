-- A renamed formula of a pair is shaped.
use Rattle.std.proofs.Common.{◌≡◌, ℕ, ◌≤◌, ◌||◌, List, [], ◌∷◌, length, map, get_or, Some, refl, sym, ◌∙◌, ap, arith}
use Rattle.std.specs.List.{All, list_any}
use Rattle.std.proofs.lemmas.List.Elements.{All-map}
use Rattle.hs_pure.specs.declared.var.Var.{Var}
use Rattle.hs_pure.specs.Occurs.{is_bound, occurs}
use Rattle.hs_pure.specs.Rename.{renamed}
use Rattle.hs_pure.specs.Sums.{KeepsKinds}
use Rattle.hs_pure.proofs.Vars.{or_left}
use Rattle.hs_heap.specs.declared.formula.Atom.{Atom}
use Rattle.hs_heap.specs.declared.formula.Disjunct.{Disjunct}
use Rattle.hs_heap.specs.declared.formula.Formula.{Formula}
use Rattle.hs_heap.specs.declared.definitions.Defs.{Defs}
use Rattle.hs_heap.specs.Meaning.{is_in}
use Rattle.hs_heap.specs.Variables.{in_atom}
use Rattle.hs_heap.specs.Sound.{AtomFits, DisjunctFits, FormulaFits, kinds}
use Rattle.hs_heap.specs.Renamed.{renamed_atom, renamed_disjunct, renamed_formula, DisjunctKeepsApart}
use Rattle.hs_goal.specs.Parts.{ConjunctFits}
use Rattle.hs_rules.proofs.Proper.{is_and-renamed, proper-renamed, well_formed_proper}
use Rattle.hs_rules.proofs.Fitting.{distinct-map}
use Rattle.hs_program_fits.proofs.Shapes.{CaseIsShaped, IsShaped}

-- a formula with a case has one after a renaming
pub still_there : (ρ : Var → Var) (f : Formula) → 1 ≤ length f.cases → ¬ ((renamed_formula ρ f).cases ≡ [])
still_there ρ f some e = go f.cases some e
  where
    go : (ds : List Disjunct) → 1 ≤ length ds → map (renamed_disjunct ρ) ds ≡ [] → ⊥
    go [] less e = omega arith
    go (d ∷ ds) less e = cc

module _ (defs : Defs) (ρ : Var → Var) (keeps : KeepsKinds ρ) where
  same_kinds : (vs : List Var) → kinds (map ρ vs) ≡ kinds vs
  same_kinds [] = refl
  same_kinds (v ∷ vs) = λ i. keeps v i ∷ same_kinds vs i

  atom_fits : (a : Atom) → AtomFits defs a → AtomFits defs (renamed_atom ρ a)
  atom_fits a h = (keeps a.root ∙ h.0, h.1 ∙ ap Some (sym (same_kinds a.args)))

  renamed_case : (vs : List Var) (next : ℕ) (d : Disjunct) → DisjunctFits defs vs next d → DisjunctKeepsApart ρ d → CaseIsShaped defs (renamed_disjunct ρ d)
  renamed_case vs next d h apart = record {
    atoms = All-map (AtomFits defs) (renamed_atom ρ) d.atoms (λ i a less. atom_fits (get_or d.atoms i a) (h.atoms i a less));
    distinct = distinct-map ρ d.bound
        (λ u v k l e. apart u v (or_left (is_in u d.bound) (list_any (is_bound u) d.pure) k) (or_left (is_in v d.bound) (list_any (in_atom v) d.atoms || list_any (occurs v) d.pure) l) e) h.distinct;
    pure = All-map ConjunctFits (renamed ρ) d.pure (λ i p less.
        let q = get_or d.pure i p in
        (is_and-renamed ρ q ∙ h.flat i p less, proper-renamed ρ keeps q (well_formed_proper q (h.pure i p less).formed)));
  }

  pub renamed_shaped : (vs : List Var) (next : ℕ) (f : Formula) → FormulaFits defs vs next f → All (DisjunctKeepsApart ρ) f.cases → IsShaped defs (renamed_formula ρ f)
  renamed_shaped vs next f h apart = All-map (CaseIsShaped defs) (renamed_disjunct ρ) f.cases (λ i d less. renamed_case vs next (get_or f.cases i d) (h i d less) (apart i d less))
