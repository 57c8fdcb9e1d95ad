use Rattle.hs_source.proofs.Causes.{lexer_cause}
use Rattle.hs_source.proofs.texts.tokens.Goals as goal

pub returns-in-Err-clause-cause : goal.returns-in-Err-clause-cause
returns-in-Err-clause-cause c = lexer_cause c.args.bytes.now c.in-Err.error c.of_lexer.result c.in-Err.ensures.cause c.of_lexer.ensures
