use Rattle.hs_reduction.proofs.Bagless.{bagless_has_no_bags}
use Rattle.hs_reduction.proofs.laws.bagless_has_no_bags.Goals as goal

pub returns : goal.returns
returns c = bagless_has_no_bags
