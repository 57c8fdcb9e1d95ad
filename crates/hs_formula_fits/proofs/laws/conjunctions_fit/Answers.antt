use Rattle.hs_formula_fits.proofs.Settled.{conjunctions_fit}
use Rattle.hs_formula_fits.proofs.laws.conjunctions_fit.Goals as goal

pub returns : goal.returns
returns c = conjunctions_fit
