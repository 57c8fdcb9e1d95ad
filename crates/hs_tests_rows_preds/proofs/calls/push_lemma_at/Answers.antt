use Rattle.hs_tests_rows_preds.proofs.Fit.{lemma_there, lemma_arguments_fit}
use Rattle.hs_tests_rows_preds.proofs.calls.push_lemma_at.Goals as goal

pub instantiate_lemma-requires-clause-exists : goal.instantiate_lemma-requires-clause-exists
instantiate_lemma-requires-clause-exists c = lemma_there c.args.defs.now c.args.number c.args.lemma.now c.requires.found

pub instantiate_lemma-requires-clause-arguments : goal.instantiate_lemma-requires-clause-arguments
instantiate_lemma-requires-clause-arguments c =
    lemma_arguments_fit c.args.defs.now c.args.number c.args.lemma.now c.requires.found c.requires.sound c.args.pred c.requires.same c.args.root c.args.args.now c.args.fresh c.requires.fits
