use Rattle.std.proofs.Common.{◌∙◌, arith}
use Rattle.hs_norm.specs.Items.{data_of}
use Rattle.hs_norm_item.specs.Definitions.{node}
use Rattle.hs_norm.specs.Normal.{add_some}
use Rattle.hs_norm.proofs.Builders.{added}
use Rattle.hs_norm.proofs.source.nodes.Goals as goal

pub loop-item-preserved : goal.loop-item-preserved
loop-item-preserved c = added (node c.args.d.now.table) data_of c.args.items.now c.loop-item.item-index c.item-item.result c.args.n.now (c.loop-item.found, c.loop-item.n) (c.add_node.new.found, c.add_node.new.n)
    (omega arith) c.loop-item.invariant (c.in_ok-add_node.ensures ∙ λ j. add_some (node c.args.d.now.table) (data_of (c.item-item.is j)) (c.loop-item.found, c.loop-item.n))
