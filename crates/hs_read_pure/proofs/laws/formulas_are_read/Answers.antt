use Rattle.hs_read_pure.proofs.Unique.{formulas_read}
use Rattle.hs_read_pure.proofs.laws.formulas_are_read.Goals as goal

pub returns : goal.returns
returns c = formulas_read
