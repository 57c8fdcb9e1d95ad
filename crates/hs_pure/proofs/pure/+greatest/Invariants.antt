use Rattle.std.proofs.Common.{◌≡◌, take, map}
use Rattle.hs_pure.specs.Occurs.{top_of, greatest}
use Rattle.hs_pure.proofs.pure.+greatest.Given as goal

abbrev pub invariant-greatest_of-loop-p : goal.invariant-greatest_of-loop-p
invariant-greatest_of-loop-p l = l.top ≡ greatest (map top_of (take l.p-index l.ps))
