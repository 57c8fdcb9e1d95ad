use Rattle.std.proofs.Common.{arith}
use Rattle.hs_norm_item.proofs.Freeing.{put_is_set, put_beyond}
use Rattle.hs_norm_item.proofs.free.put.Goals as goal

pub returns-then-place-free : goal.returns-then-place-free
returns-then-place-free c = put_is_set c.args.free.now c.args.v.number c.args.v.bag c.args.is c.with.result _ (omega arith) c.with.ensures

pub returns-else-place-free : goal.returns-else-place-free
returns-else-place-free c = put_beyond c.args.free.now c.args.v.number c.args.v.bag c.args.is (omega arith)
