use Rattle.hs_reduction.proofs.Order.{free_are_numbers}
use Rattle.hs_reduction.proofs.laws.free_are_numbers.Goals as goal

pub returns : goal.returns
returns c = free_are_numbers
