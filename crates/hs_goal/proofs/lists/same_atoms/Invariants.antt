use Rattle.std.proofs.Common.{◌≡◌, length, take}
use Rattle.hs_goal.proofs.lists.same_atoms.Given as goal

abbrev pub invariant-loop-atom : goal.invariant-loop-atom
invariant-loop-atom l = take (length l.yielded) l.atoms ≡ take (length l.yielded) l.others
