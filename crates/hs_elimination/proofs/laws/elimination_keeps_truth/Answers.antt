use Rattle.hs_elimination.proofs.Decided.{truth-without_variable}
use Rattle.hs_elimination.proofs.laws.elimination_keeps_truth.Goals as goal

pub returns : goal.returns
returns c = truth-without_variable
