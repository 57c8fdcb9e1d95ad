-- The start of each pair is prepared.
use Rattle.hs_program_fits.proofs.Preparing.{entries_prepared}
use Rattle.hs_program_fits.proofs.laws.entries_are_prepared.Goals as goal

pub returns : goal.returns
returns c = entries_prepared
