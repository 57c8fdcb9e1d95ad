use Rattle.hs_read_pure.proofs.Unique.{pure_read}
use Rattle.hs_read_pure.proofs.laws.pure_formulas_are_read.Goals as goal

pub returns : goal.returns
returns c = pure_read
