use Rattle.std.proofs.Common.{◌∙◌, arith, false}
use Rattle.hs_norm_formula.specs.Item.{item}
use Rattle.hs_norm_formula.specs.Splice.{conjuncts}
use Rattle.hs_norm_formula.proofs.Builders.{spliced_more}
use Rattle.hs_norm_formula.proofs.splice.conjuncts.Goals as goal

pub loop-tree-preserved : goal.loop-tree-preserved
loop-tree-preserved c = spliced_more item (λ i. i false) conjuncts c.args.trees.now c.loop-tree.tree-index c.tree-item.result c.args.n.now c.loop-tree.n c.item.new.n c.loop-tree.all _ c.in_ok-part.part (omega arith) c.loop-tree.invariant
    (c.in_ok-part.ensures ∙ (λ j. item (c.tree-item.is j) false c.loop-tree.n)) c.in_ok-add_conjuncts.ensures
