use Rattle.hs_formula_fits.proofs.Cases.{disjuncts_fit, formulas_fit}
use Rattle.hs_formula_fits.proofs.Settled.{conjunctions_fit}
use Rattle.hs_norm_sound.proofs.Grows.{faults_stay}
use Rattle.hs_norm_sound.proofs.Source.{source_built}
use Rattle.hs_norm_sound.proofs.Definitions.{defs_sound}
use Rattle.hs_norm_sound.proofs.laws.definitions_are_sound.Goals as goal

pub returns : goal.returns
returns c = λ source r e. defs_sound conjunctions_fit disjuncts_fit formulas_fit faults_stay source.items r (source_built faults_stay source r e)
