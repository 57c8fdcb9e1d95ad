use Rattle.std.proofs.Common.{◌≡◌, ◌++◌}
use Rattle.hs_counts.specs.Counts.{block_counts}
use Rattle.hs_bag.specs.Counting.{layout_of}
use Rattle.hs_bag.proofs.layout.Layout.push_counts.Given as goal

abbrev pub invariant-loop-i : goal.invariant-loop-i
invariant-loop-i l = l.counts ≡ l.initial.counts ++ block_counts (layout_of l.self) l.of l.block l.i
