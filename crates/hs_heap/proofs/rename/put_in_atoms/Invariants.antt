use Rattle.std.proofs.Common.{◌≡◌, take, map}
use Rattle.hs_pure.specs.Rename.{renaming}
use Rattle.hs_heap.specs.Renamed.{renamed_atom}
use Rattle.hs_heap.proofs.rename.put_in_atoms.Given as goal

abbrev pub invariant-loop-atom : goal.invariant-loop-atom
invariant-loop-atom l = l.all ≡ map (renamed_atom (renaming l.pairs)) (take l.atom-index l.atoms)
