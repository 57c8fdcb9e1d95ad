-- The atoms that a question takes into account.
use Rattle.std.proofs.Common.{ℕ, ◌≡◌, inl, inr, List, [], ◌∷◌, ◌++◌, get_or, sym, ◌∙◌, subst}
use Rattle.std.specs.List.{list_any, All}
use Rattle.std.proofs.lemmas.List.Elements.{All-nil, All-head, All-append}
use Rattle.std.proofs.lemmas.List.Folds.{list_any-append}
use Rattle.std.proofs.lemmas.Bool.{or_cases}
use Rattle.hs_heap.specs.declared.formula.Atom.{Atom}
use Rattle.hs_heap.specs.declared.formula.Disjunct.{Disjunct}
use Rattle.hs_heap.specs.declared.definitions.Defs.{Defs}
use Rattle.hs_heap.specs.Variables.{in_atom}
use Rattle.hs_heap.specs.Sound.{AtomFits}
use Rattle.hs_goal.specs.declared.goal.Goal.{Goal}
use Rattle.hs_goal.specs.Classes.{nothing}
use Rattle.hs_goal.specs.Shape.{GoalFits, CaseFits}
use Rattle.hs_xpure.specs.Laws.{AtomsFit}
use Rattle.hs_rules.specs.Parts.{left_atoms}
use Rattle.hs_rules.proofs.Fits.{atoms_below}

first_fits : (defs : Defs) (next : ℕ) (ds : List Disjunct) → All (CaseFits defs next) ds → AtomsFit defs (get_or ds 0 nothing).atoms next
first_fits defs next [] f = record { each = All-nil (AtomFits defs); below = λ v e. absurd cc }
first_fits defs next (d ∷ ds) f =
    let c = All-head (CaseFits defs next) d ds f in
    record { each = c.atoms; below = atoms_below next d c.numbers }

pub known_fit : (defs : Defs) (g : Goal) → GoalFits defs g → AtomsFit defs (g.used ++ left_atoms g) g.next
known_fit defs g fits =
    let left = first_fits defs g.next g.left.cases fits.left in
    record {
      each = All-append (AtomFits defs) g.used (left_atoms g) fits.used left.each;
      below = λ v e. elim (or_cases (list_any (in_atom v) g.used) (list_any (in_atom v) (left_atoms g)) (sym (list_any-append (in_atom v) g.used (left_atoms g)) ∙ e)) [
        | inl k ↦ fits.used_numbers v k
        | inr k ↦ left.below v k
      ];
    }

-- these are those atoms
pub known_atoms_fit : (defs : Defs) (g : Goal) (atoms : List Atom) → atoms ≡ g.used ++ left_atoms g → GoalFits defs g → AtomsFit defs atoms g.next
known_atoms_fit defs g atoms is fits = subst (λ as'. AtomsFit defs as' g.next) (sym is) (known_fit defs g fits)
