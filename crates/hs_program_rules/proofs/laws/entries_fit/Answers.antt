-- The start of each pair is well formed.
use Rattle.hs_program_rules.proofs.Entries.{entries_are_fit}
use Rattle.hs_program_rules.proofs.laws.entries_fit.Goals as goal

pub returns : goal.returns
returns c = entries_are_fit
