use Rattle.hs_calculus.proofs.Trees.{places_is}
use Rattle.hs_calculus.proofs.laws.places_are_by_choices.Goals as goal

pub returns : goal.returns
returns g c = λ x. places_is (g.C.Calculus.calculus x) (g.met.C.Calculus.falls x)
