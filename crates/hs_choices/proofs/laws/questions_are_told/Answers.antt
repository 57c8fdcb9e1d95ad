use Rattle.hs_choices.proofs.Answered.{questions_told}
use Rattle.hs_choices.proofs.laws.questions_are_told.Goals as goal

pub returns : goal.returns
returns c = questions_told c.questions_can_be_asked.ensures c.implications_are_told.ensures
