use Rattle.hs_read_pure.proofs.Unique.{pure_unique}
use Rattle.hs_read_pure.proofs.laws.pure_formulas_are_unique.Goals as goal

pub returns : goal.returns
returns c = pure_unique
