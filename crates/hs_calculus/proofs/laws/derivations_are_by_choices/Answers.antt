use Rattle.hs_calculus.proofs.Trees.{derivations_is}
use Rattle.hs_calculus.proofs.laws.derivations_are_by_choices.Goals as goal

pub returns : goal.returns
returns g c = λ x. derivations_is (g.C.Calculus.calculus x) (g.met.C.Calculus.falls x)
