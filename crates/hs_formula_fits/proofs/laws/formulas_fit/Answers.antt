use Rattle.hs_formula_fits.proofs.Cases.{formulas_fit}
use Rattle.hs_formula_fits.proofs.laws.formulas_fit.Goals as goal

pub returns : goal.returns
returns c = formulas_fit
