use Rattle.hs_formula_fits.proofs.Cases.{disjuncts_fit}
use Rattle.hs_formula_fits.proofs.laws.disjuncts_fit.Goals as goal

pub returns : goal.returns
returns c = disjuncts_fit
