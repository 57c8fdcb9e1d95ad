-- Further premises are well formed.
use Rattle.hs_program_fits.proofs.Continuing.{premises_are_fit}
use Rattle.hs_program_fits.proofs.laws.premises_fit.Goals as goal

pub returns : goal.returns
returns c = premises_are_fit
