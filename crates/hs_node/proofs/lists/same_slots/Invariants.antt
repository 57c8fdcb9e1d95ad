use Rattle.std.proofs.Common.{◌≡◌, length, take}
use Rattle.hs_node.proofs.lists.same_slots.Given as goal

abbrev pub invariant-loop-slot : goal.invariant-loop-slot
invariant-loop-slot l = take (length l.yielded) l.slots ≡ take (length l.yielded) l.others
