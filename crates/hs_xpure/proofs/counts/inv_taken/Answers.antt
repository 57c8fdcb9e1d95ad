use Rattle.std.proofs.Common.{arith}
use Rattle.hs_xpure.proofs.Own.{own_arguments, own_room}
use Rattle.hs_xpure.proofs.counts.inv_taken.Goals as goal

pub instantiate_inv-requires-clause-arguments : goal.instantiate_inv-requires-clause-arguments
instantiate_inv-requires-clause-arguments c = own_arguments c.args.defs.now c.requires.sound c.args.pred c.args.p.now c.requires.there c.as_slice.result.now c.as_slice.ensures

pub instantiate_inv-requires-clause-room : goal.instantiate_inv-requires-clause-room
instantiate_inv-requires-clause-room c = own_room c.args.defs.now c.requires.sound c.args.pred c.args.p.now c.requires.there

pub overflow_sub-next : goal.overflow_sub-next
overflow_sub-next c = let e = c.in_ok-next.ensures.next c.args.p.now c.requires.there in omega arith
