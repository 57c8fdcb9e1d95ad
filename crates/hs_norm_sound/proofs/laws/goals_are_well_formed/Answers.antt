use Rattle.hs_formula_fits.proofs.Cases.{formulas_fit}
use Rattle.hs_norm_sound.proofs.Grows.{faults_stay}
use Rattle.hs_norm_sound.proofs.Source.{source_built}
use Rattle.hs_norm_sound.proofs.Claims.{entailments_normal}
use Rattle.hs_norm_sound.proofs.laws.goals_are_well_formed.Goals as goal

pub returns : goal.returns
returns c = λ source r e. entailments_normal formulas_fit faults_stay source.items r (source_built faults_stay source r e)
