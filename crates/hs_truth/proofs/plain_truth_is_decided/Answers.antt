use Rattle.hs_truth.proofs.Decided.{truth_decided}
use Rattle.hs_truth.proofs.plain_truth_is_decided.Goals as goal

pub returns : goal.returns
returns c = truth_decided
