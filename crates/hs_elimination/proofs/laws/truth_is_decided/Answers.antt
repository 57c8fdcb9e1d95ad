use Rattle.hs_elimination.proofs.Decided.{truth_is_decided}
use Rattle.hs_elimination.proofs.laws.truth_is_decided.Goals as goal

pub returns : goal.returns
returns c = truth_is_decided
