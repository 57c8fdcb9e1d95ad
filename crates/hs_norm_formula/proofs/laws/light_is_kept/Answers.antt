use Rattle.hs_norm_formula.proofs.Light.{light_is_kept}
use Rattle.hs_norm_formula.proofs.laws.light_is_kept.Goals as goal

pub returns : goal.returns
returns c = light_is_kept
