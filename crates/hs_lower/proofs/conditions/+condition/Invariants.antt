use Rattle.std.proofs.Common.{◌≡◌, take, map}
use Rattle.hs_tree.specs.declared.method.CondTree.{out-CondTree}
use Rattle.hs_lower_scope.specs.View.{shown}
use Rattle.hs_lower.specs.Conditions.{conj, test}
use Rattle.hs_lower.proofs.conditions.+condition.Given as goal

abbrev pub invariant-tests-loop-tree : goal.invariant-tests-loop-tree
invariant-tests-loop-tree l = l.all ≡ map (test (shown l.scope)) (take l.tree-index l.trees)

abbrev pub invariant-condition-loop-case : goal.invariant-condition-loop-case
invariant-condition-loop-case l = l.all ≡ map conj (map (map (test (shown l.scope))) (take l.case-index (out-CondTree l.tree).cases))
