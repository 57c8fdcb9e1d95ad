use Rattle.hs_goal.proofs.Sides.{sides_are_of_next}
use Rattle.hs_goal.proofs.laws.sides_are_of_next.Goals as goal

pub returns : goal.returns
returns c = sides_are_of_next
