use Rattle.hs_pure.proofs.Renamed.{free-occurs_of}
use Rattle.hs_pure.proofs.laws.free_occurs.Goals as goal

pub returns : goal.returns
returns c = free-occurs_of
