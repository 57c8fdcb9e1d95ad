use Rattle.std.proofs.Common.{◌≡◌, take}
use Rattle.std.specs.List.{filter_map}
use Rattle.hs_numbering.specs.Numbering.{each_counted}
use Rattle.hs_norm_item.specs.Definitions.{node}
use Rattle.hs_norm.specs.Items.{data_of}
use Rattle.hs_norm.proofs.source.nodes.Given as goal

abbrev pub invariant-loop-item : goal.invariant-loop-item
invariant-loop-item l = (l.found, l.n) ≡ each_counted (node l.d.table) (filter_map data_of (take l.item-index l.items)) l.fn.n
