use Rattle.hs_reduction.proofs.Numbers.{numbers_are_below}
use Rattle.hs_reduction.proofs.laws.numbers_are_below.Goals as goal

pub returns : goal.returns
returns c = numbers_are_below
