use Rattle.hs_core_lines.proofs.Unique.{no_fault}
use Rattle.hs_core_lines.proofs.laws.programs_have_no_lowering_fault.Goals as goal

pub returns : goal.returns
returns c = no_fault
