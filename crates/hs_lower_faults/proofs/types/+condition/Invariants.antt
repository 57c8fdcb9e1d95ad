use Rattle.std.proofs.Common.{◌≡◌, take, map}
use Rattle.hs_tree.specs.declared.method.CondTree.{out-CondTree}
use Rattle.hs_lower_scope.specs.View.{shown}
use Rattle.hs_lower_faults.specs.First.{all}
use Rattle.hs_lower_faults.specs.Types.{test}
use Rattle.hs_lower_faults.proofs.types.+condition.Given as goal

abbrev pub invariant-tests-loop-tree : goal.invariant-tests-loop-tree
invariant-tests-loop-tree l = l.found ≡ all (λ t. t) (map (test (shown l.scope)) (take l.tree-index l.trees)) l.fn.found

abbrev pub invariant-condition-loop-case : goal.invariant-condition-loop-case
invariant-condition-loop-case l = l.found ≡ all (all (λ t. t)) (map (map (test (shown l.scope))) (take l.case-index (out-CondTree l.tree).cases)) l.fn.found
