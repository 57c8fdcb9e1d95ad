use Rattle.std.proofs.Common.{◌≡◌, length, take}
use Rattle.hs_pure.proofs.+same.Given as goal

abbrev pub invariant-equality::same_all-loop-p : goal.invariant-equality::same_all-loop-p
invariant-equality::same_all-loop-p l = take (length l.yielded) l.ps ≡ take (length l.yielded) l.qs
