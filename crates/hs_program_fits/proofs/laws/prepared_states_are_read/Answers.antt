-- The slots that a prepared state reads hold variables.
use Rattle.hs_program_fits.proofs.Reading.{states_are_read}
use Rattle.hs_program_fits.proofs.laws.prepared_states_are_read.Goals as goal

pub returns : goal.returns
returns c = states_are_read
