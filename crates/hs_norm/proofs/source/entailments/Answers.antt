use Rattle.std.proofs.Common.{◌∙◌, arith}
use Rattle.hs_norm.specs.Items.{entail_of}
use Rattle.hs_norm_item.specs.Claims.{entailment}
use Rattle.hs_norm.specs.Normal.{add_some}
use Rattle.hs_norm.proofs.Builders.{added}
use Rattle.hs_norm.proofs.source.entailments.Goals as goal

pub loop-item-preserved : goal.loop-item-preserved
loop-item-preserved c = added (entailment c.args.d.now.table) entail_of c.args.items.now c.loop-item.item-index c.item-item.result c.args.n.now (c.loop-item.found, c.loop-item.n) (c.add_entailment.new.found, c.add_entailment.new.n)
    (omega arith) c.loop-item.invariant (c.in_ok-add_entailment.ensures ∙ λ j. add_some (entailment c.args.d.now.table) (entail_of (c.item-item.is j)) (c.loop-item.found, c.loop-item.n))
