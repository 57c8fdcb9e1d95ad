use Rattle.hs_xpure.proofs.Building.{pred_exists, pred_arguments, pred_room, inv_is}
use Rattle.hs_xpure.proofs.form.inv_formed.Goals as goal

pub instantiate_inv-requires-clause-exists : goal.instantiate_inv-requires-clause-exists
instantiate_inv-requires-clause-exists c = pred_exists c.args.defs.now c.requires.sound c.args.pred c.args.root c.args.args.now c.args.next c.requires.fits

pub instantiate_inv-requires-clause-arguments : goal.instantiate_inv-requires-clause-arguments
instantiate_inv-requires-clause-arguments c = pred_arguments c.args.defs.now c.requires.sound c.args.pred c.args.root c.args.args.now c.args.next c.requires.fits

pub instantiate_inv-requires-clause-room : goal.instantiate_inv-requires-clause-room
instantiate_inv-requires-clause-room c = pred_room c.args.defs.now c.requires.sound c.args.pred c.args.root c.args.args.now c.args.next c.requires.fits c.requires.room

pub returns : goal.returns
returns c = inv_is c.args.defs.now c.requires.sound c.args.pred c.args.root c.args.args.now c.args.next c.requires.fits c.in_ok-inv.inv c.in_ok-inv.next c.in_ok-pure.pure c.new.result c.in_ok-pure.ensures c.new.ensures c.in_ok-inv.ensures.same c.in_ok-inv.ensures.next
