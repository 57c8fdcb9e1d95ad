use Rattle.std.proofs.Common.{◌≡◌, take}
use Rattle.std.specs.List.{filter_map}
use Rattle.hs_numbering.specs.Numbering.{each_counted}
use Rattle.hs_norm_item.specs.Definitions.{pred}
use Rattle.hs_norm.specs.Items.{pred_of}
use Rattle.hs_norm.proofs.source.preds.Given as goal

abbrev pub invariant-loop-item : goal.invariant-loop-item
invariant-loop-item l = (l.found.items, l.n) ≡ each_counted (pred l.d.table) (filter_map pred_of (take l.item-index l.items)) l.fn.n
