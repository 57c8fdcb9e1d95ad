use Rattle.hs_question.proofs.Askable.{sides_can}
use Rattle.hs_question.proofs.laws.questions_can_be_asked.Goals as goal

pub returns : goal.returns
returns c = λ defs sound g fits rule has. sides_can c.approximation_is_ordered.ensures c.approximation_is_plain.ensures defs sound g fits rule has
