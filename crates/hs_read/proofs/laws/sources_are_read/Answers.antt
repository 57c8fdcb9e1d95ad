use Rattle.hs_read.proofs.Unique.{sources_read}
use Rattle.hs_read.proofs.laws.sources_are_read.Goals as goal

pub returns : goal.returns
returns c = sources_read
