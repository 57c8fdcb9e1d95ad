use Rattle.hs_numbering.proofs.Before.{least_is_first}
use Rattle.hs_numbering.proofs.laws.least_is_first.Goals as goal

pub returns : goal.returns
returns c = least_is_first
