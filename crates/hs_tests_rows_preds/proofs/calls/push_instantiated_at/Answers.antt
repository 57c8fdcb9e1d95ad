use Rattle.hs_tests_rows_preds.proofs.Fit.{pred_there, arguments_fit}
use Rattle.hs_tests_rows_preds.proofs.calls.push_instantiated_at.Goals as goal

pub instantiate-requires-clause-exists : goal.instantiate-requires-clause-exists
instantiate-requires-clause-exists c = pred_there c.args.defs.now c.args.pred c.args.root c.args.args.now c.args.fresh c.requires.fits

pub instantiate-requires-clause-arguments : goal.instantiate-requires-clause-arguments
instantiate-requires-clause-arguments c = arguments_fit c.args.defs.now c.args.pred c.args.root c.args.args.now c.args.fresh c.requires.fits
