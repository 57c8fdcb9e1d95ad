use Rattle.hs_calculus.proofs.Complete.{search_is_complete}
use Rattle.hs_calculus.proofs.laws.search_is_complete.Goals as goal

pub returns : goal.returns
returns g c = λ x. search_is_complete (g.C.Calculus.calculus x) (g.C.Calculus.is_spent x) (g.C.Calculus.is_stuck x) (g.C.Calculus.is_refuted x)
