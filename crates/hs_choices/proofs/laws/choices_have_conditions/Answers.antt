use Rattle.hs_choices.proofs.Tried.{have_conditions}
use Rattle.hs_choices.proofs.laws.choices_have_conditions.Goals as goal

pub returns : goal.returns
returns c = have_conditions c.equations_are_told.ensures
