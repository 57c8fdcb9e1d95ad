-- Concluded states are safe.
use Rattle.hs_program_rules.proofs.Safe.{all_concluded_safe}
use Rattle.hs_program_rules.proofs.laws.concluded_states_are_safe.Goals as goal

pub returns : goal.returns
returns c = all_concluded_safe
