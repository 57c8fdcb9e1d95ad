use Rattle.std.proofs.Common.{◌≡◌, length, take}
use Rattle.hs_goal.proofs.lists.same_vars.Given as goal

abbrev pub invariant-loop-v : goal.invariant-loop-v
invariant-loop-v l = take (length l.yielded) l.vs ≡ take (length l.yielded) l.ws
