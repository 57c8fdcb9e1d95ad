use Rattle.hs_xpure.proofs.Own.{own_arguments, own_room}
use Rattle.hs_xpure.proofs.counts.body_taken.Goals as goal

pub instantiate-requires-clause-arguments : goal.instantiate-requires-clause-arguments
instantiate-requires-clause-arguments c = own_arguments c.args.defs.now c.requires.sound c.args.pred c.args.p.now c.requires.there c.as_slice.result.now c.as_slice.ensures

pub instantiate-requires-clause-room : goal.instantiate-requires-clause-room
instantiate-requires-clause-room c = own_room c.args.defs.now c.requires.sound c.args.pred c.args.p.now c.requires.there
