use Rattle.hs_read.proofs.Written.{sources_have_disjuncts}
use Rattle.hs_formula_fits.proofs.Cases.{formulas_fit}
use Rattle.hs_norm_sound.proofs.Grows.{faults_stay}
use Rattle.hs_norm_sound.proofs.Source.{source_built}
use Rattle.hs_norm_sound.proofs.Claims.{entailments_written}
use Rattle.hs_norm_sound.proofs.Written.{entails_written}
use Rattle.hs_norm_sound.proofs.laws.goals_have_disjuncts.Goals as goal

pub returns : goal.returns
returns c = λ n text tokens source r spelled e. entailments_written formulas_fit faults_stay source.items r (source_built faults_stay source r e) (entails_written source (sources_have_disjuncts n text tokens source spelled))
