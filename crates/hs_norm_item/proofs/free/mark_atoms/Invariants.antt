use Rattle.std.proofs.Common.{◌≡◌, take}
use Rattle.hs_norm_item.specs.Free.{mark_atoms}
use Rattle.hs_norm_item.proofs.free.mark_atoms.Given as goal

abbrev pub invariant-loop-atom : goal.invariant-loop-atom
invariant-loop-atom l = l.free ≡ mark_atoms (take l.atom-index l.atoms) l.initial.free
