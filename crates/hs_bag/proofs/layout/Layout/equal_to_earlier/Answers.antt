use Rattle.hs_bag.proofs.Every.{every_more, size_more}
use Rattle.hs_bag.proofs.layout.Layout.equal_to_earlier.Goals as goal

pub loop-j-preserved : goal.loop-j-preserved
loop-j-preserved c = record {
  size = size_more _ _ _ _ c.loop-j.invariant.size c.in_ok-push.ensures.ok;
  made = every_more _ _ _ _ _ _ c.loop-j.invariant.size c.loop-j.invariant.made c.in_ok-one.ensures c.into_inner.ensures c.in_ok-push.ensures.ok;
}
