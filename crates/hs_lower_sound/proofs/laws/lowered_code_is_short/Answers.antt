use Rattle.hs_lower_sound.proofs.Programs.{code_short}
use Rattle.hs_lower_sound.proofs.laws.lowered_code_is_short.Goals as goal

pub returns : goal.returns
returns c = code_short
