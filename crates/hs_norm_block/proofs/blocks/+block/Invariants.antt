use Rattle.std.proofs.Common.{◌≡◌, take, map}
use Rattle.hs_tree.specs.declared.method.BlockTree.{out-BlockTree}
use Rattle.hs_norm_block.specs.Program.{all, statement}
use Rattle.hs_norm_block.proofs.blocks.+block.Given as goal

abbrev pub invariant-block-loop-one : goal.invariant-block-loop-one
invariant-block-loop-one l = (tt, l.n) ≡ all (λ s. s) (map (statement l.d l.names) (take l.one-index (out-BlockTree l.tree).statements)) l.fn.n
