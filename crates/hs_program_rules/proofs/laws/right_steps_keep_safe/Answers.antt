-- A right step keeps states safe.
use Rattle.hs_program_rules.proofs.Safe.{right_steps_keep}
use Rattle.hs_program_rules.proofs.laws.right_steps_keep_safe.Goals as goal

pub returns : goal.returns
returns c = right_steps_keep
