use Rattle.std.proofs.Common.{◌≡◌, take}
use Rattle.hs_heap.specs.Seen.{mark_atoms}
use Rattle.hs_heap.proofs.seen.mark_atoms.Given as goal

abbrev pub invariant-loop-atom : goal.invariant-loop-atom
invariant-loop-atom l = l.seen ≡ mark_atoms (take l.atom-index l.atoms) l.initial.seen
