use Rattle.hs_xpure.proofs.Levels.{new_numbers_are_in_range}
use Rattle.hs_xpure.proofs.laws.new_numbers_are_in_range.Goals as goal

pub returns : goal.returns
returns c = new_numbers_are_in_range
