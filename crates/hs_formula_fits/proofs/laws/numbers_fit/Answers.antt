use Rattle.hs_formula_fits.proofs.Settled.{numbers_fit}
use Rattle.hs_formula_fits.proofs.laws.numbers_fit.Goals as goal

pub returns : goal.returns
returns c = numbers_fit
