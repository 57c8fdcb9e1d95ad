use Rattle.std.proofs.Common.{ap, arith}
use Rattle.hs_declared.specs.Declaring.{param_count}
use Rattle.hs_declared.proofs.Lists.{filter_map_push}
use Rattle.hs_declared.proofs.declared.param_counts.Goals as goal

pub loop-item-preserved : goal.loop-item-preserved
loop-item-preserved c = filter_map_push param_count c.args.items.now c.loop-item.item-index c.item-item.result c.loop-item.counts c.push_count.new.counts _ (omega arith)
    c.loop-item.invariant c.in_ok-push_count.ensures (ap param_count c.item-item.is)
