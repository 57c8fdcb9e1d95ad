use Rattle.std.proofs.Common.{◌≡◌, take, map}
use Rattle.hs_tree.specs.declared.method.BlockTree.{out-BlockTree}
use Rattle.hs_lower_scope.specs.View.{shown}
use Rattle.hs_lower_faults.specs.First.{all}
use Rattle.hs_lower_faults.specs.Types.{statement}
use Rattle.hs_lower_faults.proofs.types.+block.Given as goal

abbrev pub invariant-block-loop-one : goal.invariant-block-loop-one
invariant-block-loop-one l = l.found ≡ all (λ s. s) (map (statement (shown l.scope)) (take l.one-index (out-BlockTree l.tree).statements)) l.fn.found
