-- A disjunct of atoms alone may be renamed.
use Rattle.std.proofs.Common.{List, [], ◌∷◌}
use Rattle.std.proofs.lemmas.List.Elements.{All-nil, All-cons}
use Rattle.hs_pure.specs.Rename.{InRange}
use Rattle.hs_heap.specs.declared.formula.Atom.{Atom}
use Rattle.hs_heap.specs.declared.formula.Disjunct.{Disjunct}
use Rattle.hs_heap.specs.Renamed.{DisjunctKeepsApart, DisjunctInRange}
use Rattle.hs_tests_rows_preds.specs.Renaming.{MayBeRenamed}

abbrev alone : List Atom → Disjunct
alone atoms = record { bound = []; atoms = atoms; pure = [] }

pub atoms_may_be_renamed : (atoms : List Atom) → MayBeRenamed (record { cases = alone atoms ∷ [] })
atoms_may_be_renamed atoms ρ = (
  All-cons (DisjunctKeepsApart ρ) (alone atoms) [] (λ u v bound occurs e. absurd cc) (All-nil (DisjunctKeepsApart ρ)),
  All-cons (DisjunctInRange ρ) (alone atoms) [] (All-nil (InRange ρ)) (All-nil (DisjunctInRange ρ)),
)
