use Rattle.hs_source.proofs.Causes.{reader_cause}
use Rattle.hs_source.proofs.Counts.{few_items}
use Rattle.hs_source.proofs.texts.tree.Goals as goal

pub returns-in-Ok-clause-few : goal.returns-in-Ok-clause-few
returns-in-Ok-clause-few c = few_items c.args.text.now c.args.tokens.now c.in-Ok.tree c.requires.tokens c.in-Ok.ensures.exact

pub returns-in-Err-clause-cause : goal.returns-in-Err-clause-cause
returns-in-Err-clause-cause c = reader_cause c.args.text.now c.args.tokens.now c.in-Err.error c.of_reader.result c.requires.tokens c.in-Err.ensures.exact c.of_reader.ensures
