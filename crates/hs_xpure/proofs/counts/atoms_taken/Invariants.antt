use Rattle.std.proofs.Common.{◌≡◌, take}
use Rattle.hs_xpure.specs.Counts.{capped, listed, atoms_taken}
use Rattle.hs_xpure.proofs.counts.atoms_taken.Given as goal

abbrev pub invariant-loop-atom : goal.invariant-loop-atom
invariant-loop-atom l = l.total ≡ capped (atoms_taken (listed l.counts) (take l.atom-index l.atoms))
