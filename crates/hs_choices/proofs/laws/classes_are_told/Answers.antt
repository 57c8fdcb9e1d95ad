use Rattle.hs_choices.proofs.Leaders.{classes_told}
use Rattle.hs_choices.proofs.laws.classes_are_told.Goals as goal

pub returns : goal.returns
returns c = classes_told
