use Rattle.hs_read_pure.proofs.Unique.{formulas_unique}
use Rattle.hs_read_pure.proofs.laws.formulas_are_unique.Goals as goal

pub returns : goal.returns
returns c = formulas_unique
