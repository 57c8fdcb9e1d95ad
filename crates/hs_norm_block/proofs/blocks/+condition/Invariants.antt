use Rattle.std.proofs.Common.{◌≡◌, take, map}
use Rattle.hs_tree.specs.declared.method.CondTree.{out-CondTree}
use Rattle.hs_norm_block.specs.Program.{all, test}
use Rattle.hs_norm_block.proofs.blocks.+condition.Given as goal

abbrev pub invariant-tests-loop-tree : goal.invariant-tests-loop-tree
invariant-tests-loop-tree l = (tt, l.n) ≡ all (λ t. t) (map (test l.d l.names) (take l.tree-index l.trees)) l.fn.n

abbrev pub invariant-condition-loop-case : goal.invariant-condition-loop-case
invariant-condition-loop-case l = (tt, l.n) ≡ all (all (λ t. t)) (map (map (test l.d l.names)) (take l.case-index (out-CondTree l.tree).cases)) l.fn.n
