use Rattle.hs_pure.proofs.Truths.{true-And}
use Rattle.hs_pure.proofs.laws.and_is_all.Goals as goal

pub returns : goal.returns
returns c = true-And
