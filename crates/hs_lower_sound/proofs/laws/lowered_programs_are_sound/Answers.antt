use Rattle.hs_lower_sound.proofs.Programs.{programs_sound}
use Rattle.hs_lower_sound.proofs.laws.lowered_programs_are_sound.Goals as goal

pub returns : goal.returns
returns c = programs_sound
