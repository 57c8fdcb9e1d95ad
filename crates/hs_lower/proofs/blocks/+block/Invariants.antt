use Rattle.std.proofs.Common.{◌≡◌, take, map}
use Rattle.hs_tree.specs.declared.method.BlockTree.{out-BlockTree}
use Rattle.hs_lower_scope.specs.View.{shown}
use Rattle.hs_lower.specs.Code.{statement, each}
use Rattle.hs_lower.proofs.blocks.+block.Given as goal

abbrev pub invariant-block-loop-one : goal.invariant-block-loop-one
invariant-block-loop-one l = l.all ≡ each (map (statement (shown l.scope)) (take l.one-index (out-BlockTree l.tree).statements)) l.p l.n
