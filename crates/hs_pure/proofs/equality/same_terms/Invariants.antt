use Rattle.std.proofs.Common.{◌≡◌, length, take}
use Rattle.hs_pure.proofs.equality.same_terms.Given as goal

abbrev pub invariant-loop-t : goal.invariant-loop-t
invariant-loop-t l = take (length l.yielded) l.a ≡ take (length l.yielded) l.b
