use Rattle.std.proofs.Common.{◌≡◌, take}
use Rattle.hs_counts.proofs.count.copy_counts.Given as goal

abbrev pub invariant-loop-count : goal.invariant-loop-count
invariant-loop-count l = l.all ≡ take l.count-index l.counts
