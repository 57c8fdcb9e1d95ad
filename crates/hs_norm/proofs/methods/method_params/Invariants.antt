use Rattle.std.proofs.Common.{◌≡◌, take}
use Rattle.hs_numbering.specs.Numbering.{each_counted}
use Rattle.hs_norm.specs.Normal.{method_param}
use Rattle.hs_norm.proofs.methods.method_params.Given as goal

abbrev pub invariant-loop-tree : goal.invariant-loop-tree
invariant-loop-tree l = (l.found, l.n) ≡ each_counted (method_param l.d.table) (take l.tree-index l.trees) l.fn.n
