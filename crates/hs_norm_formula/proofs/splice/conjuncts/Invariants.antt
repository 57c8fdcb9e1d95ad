use Rattle.std.proofs.Common.{◌≡◌, take, map}
use Rattle.hs_norm_formula.specs.Item.{item}
use Rattle.hs_norm_formula.specs.Splice.{conjuncts_of}
use Rattle.hs_norm_formula.proofs.splice.conjuncts.Given as goal

abbrev pub invariant-loop-tree : goal.invariant-loop-tree
invariant-loop-tree l = (l.all, l.n) ≡ conjuncts_of (map item (take l.tree-index l.trees)) l.fn.n
