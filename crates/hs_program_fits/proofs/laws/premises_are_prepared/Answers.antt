-- Further premises are prepared.
use Rattle.hs_program_fits.proofs.Preparing.{premises_prepared}
use Rattle.hs_program_fits.proofs.laws.premises_are_prepared.Goals as goal

pub returns : goal.returns
returns c = premises_prepared
