use Rattle.hs_pure.proofs.Agree.{truth-agree}
use Rattle.hs_pure.proofs.laws.truth_is_of_free.Goals as goal

pub returns : goal.returns
returns c = truth-agree
