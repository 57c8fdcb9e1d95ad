use Rattle.std.proofs.Common.{◌∙◌, arith}
use Rattle.hs_norm.specs.Items.{pred_of}
use Rattle.hs_norm_item.specs.Definitions.{pred}
use Rattle.hs_norm.specs.Normal.{add_some}
use Rattle.hs_norm.proofs.Builders.{added}
use Rattle.hs_norm.proofs.source.preds.Goals as goal

pub loop-item-preserved : goal.loop-item-preserved
loop-item-preserved c = added (pred c.args.d.now.table) pred_of c.args.items.now c.loop-item.item-index c.item-item.result c.args.n.now (c.loop-item.found.items, c.loop-item.n) (c.add_pred.new.found.items, c.add_pred.new.n)
    (omega arith) c.loop-item.invariant (c.in_ok-add_pred.ensures ∙ λ j. add_some (pred c.args.d.now.table) (pred_of (c.item-item.is j)) (c.loop-item.found.items, c.loop-item.n))
