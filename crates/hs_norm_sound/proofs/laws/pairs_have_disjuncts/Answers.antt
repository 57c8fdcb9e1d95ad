use Rattle.hs_read.proofs.Written.{sources_have_disjuncts}
use Rattle.hs_formula_fits.proofs.Cases.{formulas_fit}
use Rattle.hs_formula_fits.proofs.Settled.{numbers_fit}
use Rattle.hs_norm_sound.proofs.Grows.{faults_stay}
use Rattle.hs_norm_sound.proofs.Source.{source_built}
use Rattle.hs_norm_sound.proofs.MethodPairs.{pairs_filled}
use Rattle.hs_norm_sound.proofs.Written.{methods_written}
use Rattle.hs_norm_sound.proofs.laws.pairs_have_disjuncts.Goals as goal

pub returns : goal.returns
returns c = λ n text tokens source r spelled e. pairs_filled formulas_fit numbers_fit faults_stay source.items r (source_built faults_stay source r e) (methods_written source (sources_have_disjuncts n text tokens source spelled))
