use Rattle.std.proofs.Common.{◌≡◌, take, map}
use Rattle.hs_tree.specs.declared.method.BlockTree.{out-BlockTree}
use Rattle.hs_lower_scope.specs.View.{shown}
use Rattle.hs_lower_faults.specs.Setting.{statement, each}
use Rattle.hs_lower_faults.specs.View.{state_of}
use Rattle.hs_lower_faults.proofs.setting.+block.Given as goal

abbrev pub invariant-block-loop-one : goal.invariant-block-loop-one
invariant-block-loop-one l = state_of l.run ≡ each (map (statement (shown l.scope)) (take l.one-index (out-BlockTree l.tree).statements)) (state_of l.fn.run)
