use Rattle.std.proofs.Common.{◌≡◌, take}
use Rattle.hs_heap.specs.Variables.{atoms_top}
use Rattle.hs_heap.proofs.top.atoms_top.Given as goal

abbrev pub invariant-loop-atom : goal.invariant-loop-atom
invariant-loop-atom l = l.top ≡ atoms_top (take l.atom-index l.atoms)
