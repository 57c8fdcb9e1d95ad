use Rattle.std.proofs.Common.{◌≡◌, take}
use Rattle.hs_numbering.specs.Numbering.{each_counted}
use Rattle.hs_norm_item.specs.Claims.{pair}
use Rattle.hs_norm.proofs.methods.pairs.Given as goal

abbrev pub invariant-loop-tree : goal.invariant-loop-tree
invariant-loop-tree l = (l.found, l.n) ≡ each_counted (pair l.d.table l.params l.has_result) (take l.tree-index l.trees) l.fn.n
