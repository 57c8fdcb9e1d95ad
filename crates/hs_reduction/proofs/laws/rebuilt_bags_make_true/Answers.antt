use Rattle.hs_reduction.proofs.Rebuilt.{rebuilt_makes_true}
use Rattle.hs_reduction.proofs.laws.rebuilt_bags_make_true.Goals as goal

pub returns : goal.returns
returns c = rebuilt_makes_true
