use Rattle.std.proofs.Common.{arith}
use Rattle.hs_heap.proofs.Seeing.{put_is_set, put_beyond}
use Rattle.hs_heap.proofs.seen.mark.Goals as goal

pub returns-then-place-seen : goal.returns-then-place-seen
returns-then-place-seen c =
    put_is_set c.args.seen.now c.args.v.number c.args.v.bag c.with.result _ (omega arith) c.with.ensures

pub returns-else-place-seen : goal.returns-else-place-seen
returns-else-place-seen c = put_beyond c.args.seen.now c.args.v.number c.args.v.bag (omega arith)
