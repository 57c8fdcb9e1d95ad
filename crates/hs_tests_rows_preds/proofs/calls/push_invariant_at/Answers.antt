use Rattle.hs_tests_rows_preds.proofs.Fit.{pred_there, arguments_fit}
use Rattle.hs_tests_rows_preds.proofs.calls.push_invariant_at.Goals as goal

pub instantiate_inv-requires-clause-exists : goal.instantiate_inv-requires-clause-exists
instantiate_inv-requires-clause-exists c = pred_there c.args.defs.now c.args.pred c.args.root c.args.args.now c.args.fresh c.requires.fits

pub instantiate_inv-requires-clause-arguments : goal.instantiate_inv-requires-clause-arguments
instantiate_inv-requires-clause-arguments c = arguments_fit c.args.defs.now c.args.pred c.args.root c.args.args.now c.args.fresh c.requires.fits
