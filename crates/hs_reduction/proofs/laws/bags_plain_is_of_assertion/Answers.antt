use Rattle.hs_reduction.proofs.Uses.{plain_is_of_assertion}
use Rattle.hs_reduction.proofs.laws.bags_plain_is_of_assertion.Goals as goal

pub returns : goal.returns
returns c = plain_is_of_assertion
