use Rattle.std.proofs.Common.{◌≡◌, take}
use Rattle.hs_numbering.specs.Numbering.{each_counted}
use Rattle.hs_norm_item.specs.Definitions.{field}
use Rattle.hs_norm_item.proofs.definitions.fields.Given as goal

abbrev pub invariant-loop-tree : goal.invariant-loop-tree
invariant-loop-tree l = (l.found, l.n) ≡ each_counted (field l.table) (take l.tree-index l.trees) l.fn.n
