use Rattle.hs_pure.proofs.Apart.{apart_in_range}
use Rattle.hs_pure.proofs.laws.apart_is_in_range.Goals as goal

pub returns : goal.returns
returns c = apart_in_range
