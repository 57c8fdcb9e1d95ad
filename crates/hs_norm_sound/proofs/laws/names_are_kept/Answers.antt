use Rattle.hs_norm_sound.proofs.Grows.{faults_stay}
use Rattle.hs_norm_sound.proofs.Source.{source_built}
use Rattle.hs_norm_sound.proofs.Kept.{names_kept}
use Rattle.hs_norm_sound.proofs.laws.names_are_kept.Goals as goal

pub returns : goal.returns
returns c = λ source r e. names_kept faults_stay source r (source_built faults_stay source r e)
