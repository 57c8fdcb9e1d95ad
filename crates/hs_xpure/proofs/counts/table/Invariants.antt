use Rattle.std.proofs.Common.{◌≡◌}
use Rattle.hs_xpure.specs.Counts.{table}
use Rattle.hs_xpure.proofs.counts.table.Given as goal

abbrev pub invariant-loop-below : goal.invariant-loop-below
invariant-loop-below l = l.counts ≡ table l.defs l.below
