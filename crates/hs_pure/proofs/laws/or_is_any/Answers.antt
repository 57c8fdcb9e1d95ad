use Rattle.hs_pure.proofs.Truths.{true-Or}
use Rattle.hs_pure.proofs.laws.or_is_any.Goals as goal

pub returns : goal.returns
returns c = true-Or
