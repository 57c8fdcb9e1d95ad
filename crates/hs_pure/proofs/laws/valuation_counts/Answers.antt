use Rattle.hs_pure.specs.Eval.{found_bag}
use Rattle.hs_pure.proofs.Listed.{count-multiset_of}
use Rattle.hs_pure.proofs.laws.valuation_counts.Goals as goal

pub returns : goal.returns
returns c = λ v u x. count-multiset_of (found_bag v.bags u) x
