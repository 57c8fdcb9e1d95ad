use Rattle.std.proofs.Common.{◌∙◌, arith}
use Rattle.hs_norm.specs.Items.{lemma_of}
use Rattle.hs_norm_item.specs.Definitions.{lemma}
use Rattle.hs_norm.specs.Normal.{add_some}
use Rattle.hs_norm.proofs.Builders.{added}
use Rattle.hs_norm.proofs.source.lemmas.Goals as goal

pub loop-item-preserved : goal.loop-item-preserved
loop-item-preserved c = added (lemma c.args.d.now.table) lemma_of c.args.items.now c.loop-item.item-index c.item-item.result c.args.n.now (c.loop-item.found.items, c.loop-item.n) (c.add_lemma.new.found.items, c.add_lemma.new.n)
    (omega arith) c.loop-item.invariant (c.in_ok-add_lemma.ensures ∙ λ j. add_some (lemma c.args.d.now.table) (lemma_of (c.item-item.is j)) (c.loop-item.found.items, c.loop-item.n))
