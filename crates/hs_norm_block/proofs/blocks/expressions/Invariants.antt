use Rattle.std.proofs.Common.{◌≡◌, take}
use Rattle.hs_norm_block.specs.Program.{all, expression}
use Rattle.hs_norm_block.proofs.blocks.expressions.Given as goal

abbrev pub invariant-loop-tree : goal.invariant-loop-tree
invariant-loop-tree l = (tt, l.n) ≡ all (expression l.d l.names) (take l.tree-index l.trees) l.fn.n
