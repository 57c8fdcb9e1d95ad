use Rattle.hs_formula_fits.proofs.Cases.{formulas_fit}
use Rattle.hs_formula_fits.proofs.Settled.{numbers_fit}
use Rattle.hs_norm_sound.proofs.Grows.{faults_stay}
use Rattle.hs_norm_sound.proofs.Source.{source_built}
use Rattle.hs_norm_sound.proofs.MethodPairs.{pairs_normal}
use Rattle.hs_norm_sound.proofs.laws.pairs_are_normal.Goals as goal

pub returns : goal.returns
returns c = λ source r e. pairs_normal formulas_fit numbers_fit faults_stay source.items r (source_built faults_stay source r e)
