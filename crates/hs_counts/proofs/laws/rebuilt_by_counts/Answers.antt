use Rattle.hs_counts.proofs.Said.{said_is_rebuilt}
use Rattle.hs_counts.proofs.laws.rebuilt_by_counts.Goals as goal

pub returns : goal.returns
returns c = said_is_rebuilt
