use Rattle.hs_bag.proofs.Every.{every_more, size_more}
use Rattle.hs_bag.proofs.layout.Layout.all_related.Goals as goal

pub loop-i-preserved : goal.loop-i-preserved
loop-i-preserved c = record {
  size = size_more _ _ _ _ c.loop-i.invariant.size c.in_ok-push.ensures.ok;
  made = every_more _ _ _ _ _ _ c.loop-i.invariant.size c.loop-i.invariant.made c.in_ok-one.ensures c.into_inner.ensures c.in_ok-push.ensures.ok;
}
