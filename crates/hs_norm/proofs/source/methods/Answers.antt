use Rattle.std.proofs.Common.{◌∙◌, arith}
use Rattle.hs_norm.specs.Items.{method_of}
use Rattle.hs_norm.specs.Normal.{method, add_some}
use Rattle.hs_norm.proofs.Builders.{added}
use Rattle.hs_norm.proofs.source.methods.Goals as goal

pub loop-item-preserved : goal.loop-item-preserved
loop-item-preserved c = added (method c.args.d.now) method_of c.args.items.now c.loop-item.item-index c.item-item.result c.args.n.now (c.loop-item.found, c.loop-item.n) (c.add_method.new.found, c.add_method.new.n)
    (omega arith) c.loop-item.invariant (c.in_ok-add_method.ensures ∙ λ j. add_some (method c.args.d.now) (method_of (c.item-item.is j)) (c.loop-item.found, c.loop-item.n))
