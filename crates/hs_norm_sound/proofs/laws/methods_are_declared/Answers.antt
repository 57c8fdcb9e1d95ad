use Rattle.hs_norm_sound.proofs.Grows.{faults_stay}
use Rattle.hs_norm_sound.proofs.Source.{source_built}
use Rattle.hs_norm_sound.proofs.Methods.{methods_declared}
use Rattle.hs_norm_sound.proofs.laws.methods_are_declared.Goals as goal

pub returns : goal.returns
returns c = λ source r e. methods_declared faults_stay source.items r (source_built faults_stay source r e)
