use Rattle.hs_goal.proofs.Sides.{fitting_formulas_are_sides}
use Rattle.hs_goal.proofs.laws.fitting_formulas_are_sides.Goals as goal

pub returns : goal.returns
returns c = fitting_formulas_are_sides
