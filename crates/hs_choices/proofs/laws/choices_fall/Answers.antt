use Rattle.hs_choices.proofs.Lighter.{choices_are_lighter}
use Rattle.hs_choices.proofs.laws.choices_fall.Goals as goal

pub returns : goal.returns
returns c = choices_are_lighter c.equations_are_told.ensures
