use Rattle.hs_choices.proofs.Tried.{use_up}
use Rattle.hs_choices.proofs.laws.choices_use_up.Goals as goal

pub returns : goal.returns
returns c = use_up c.equations_are_told.ensures
