use Rattle.std.proofs.Common.{◌≡◌, ◌++◌, drop}
use Rattle.hs_counts.specs.Counts.{counts_of_names}
use Rattle.hs_bag.specs.Counting.{layout_of}
use Rattle.hs_bag.proofs.layout.Layout.listed_counts.Given as goal

abbrev pub invariant-loop-v : goal.invariant-loop-v
invariant-loop-v l = l.counts ++ counts_of_names (layout_of l.self) (drop l.v-index l.v-items) ≡ counts_of_names (layout_of l.self) l.v-items
