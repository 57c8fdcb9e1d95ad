use Rattle.hs_entail_lines.proofs.Goals.{entailments_are_goals}
use Rattle.hs_entail_lines.proofs.laws.entailments_are_goals.Goals as goal

pub returns : goal.returns
returns c = entailments_are_goals c.fitting_formulas_are_sides.ensures c.start_is_well_formed.ensures
