use Rattle.std.proofs.Common.{◌∙◌, ap, arith}
use Rattle.hs_declared.specs.Declaring.{lemma_name}
use Rattle.hs_declared.proofs.Lists.{filter_map_push}
use Rattle.hs_declared.proofs.declared.lemma_names.Goals as goal

pub loop-item-preserved : goal.loop-item-preserved
loop-item-preserved c = filter_map_push lemma_name c.args.items.now c.loop-item.item-index c.item-item.result c.loop-item.names c.push_name.new.names _ (omega arith)
    c.loop-item.invariant c.in_ok-push_name.ensures (c.lemma_name.ensures ∙ ap lemma_name c.item-item.is)
