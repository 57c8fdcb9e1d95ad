use Rattle.hs_read.proofs.Written.{sources_have_disjuncts}
use Rattle.hs_read.proofs.laws.sources_have_disjuncts.Goals as goal

pub returns : goal.returns
returns c = sources_have_disjuncts
