use Rattle.std.proofs.Common.{◌≡◌, take}
use Rattle.std.specs.List.{filter_map}
use Rattle.hs_declared.specs.Declaring.{param_count}
use Rattle.hs_declared.proofs.declared.param_counts.Given as goal

abbrev pub invariant-loop-item : goal.invariant-loop-item
invariant-loop-item l = l.counts ≡ filter_map param_count (take l.item-index l.items)
