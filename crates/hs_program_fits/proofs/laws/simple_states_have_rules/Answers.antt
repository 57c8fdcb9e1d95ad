-- A simple prepared state has the rules of its instruction.
use Rattle.hs_program_fits.proofs.Reading.{states_have_rules}
use Rattle.hs_program_fits.proofs.laws.simple_states_have_rules.Goals as goal

pub returns : goal.returns
returns c = states_have_rules
