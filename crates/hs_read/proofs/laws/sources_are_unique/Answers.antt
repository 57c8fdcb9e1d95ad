use Rattle.hs_read.proofs.Unique.{sources_unique}
use Rattle.hs_read.proofs.laws.sources_are_unique.Goals as goal

pub returns : goal.returns
returns c = sources_unique
