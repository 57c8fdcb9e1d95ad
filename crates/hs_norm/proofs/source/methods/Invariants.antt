use Rattle.std.proofs.Common.{◌≡◌, take}
use Rattle.std.specs.List.{filter_map}
use Rattle.hs_numbering.specs.Numbering.{each_counted}
use Rattle.hs_norm.specs.Normal.{method}
use Rattle.hs_norm.specs.Items.{method_of}
use Rattle.hs_norm.proofs.source.methods.Given as goal

abbrev pub invariant-loop-item : goal.invariant-loop-item
invariant-loop-item l = (l.found, l.n) ≡ each_counted (method l.d) (filter_map method_of (take l.item-index l.items)) l.fn.n
