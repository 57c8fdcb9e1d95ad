use Rattle.hs_source.proofs.Uniqueness.{texts_have_one_answer}
use Rattle.hs_source.proofs.laws.texts_have_one_answer.Goals as goal

pub returns : goal.returns
returns c =
    texts_have_one_answer c.tokens_are_unique.ensures c.tokens_exclude_faults.ensures c.faults_are_unique.ensures c.sources_are_read.ensures c.sources_are_unique.ensures
