use Rattle.hs_lex.proofs.Exact.{answered}
use Rattle.hs_lex.proofs.laws.texts_have_answers.Goals as goal

pub returns : goal.returns
returns c = answered
