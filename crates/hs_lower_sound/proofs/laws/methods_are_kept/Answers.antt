use Rattle.hs_lower_sound.proofs.Programs.{methods_kept}
use Rattle.hs_lower_sound.proofs.laws.methods_are_kept.Goals as goal

pub returns : goal.returns
returns c = methods_kept
