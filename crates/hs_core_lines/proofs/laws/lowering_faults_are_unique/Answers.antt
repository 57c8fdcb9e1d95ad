use Rattle.hs_core_lines.proofs.Unique.{one_fault}
use Rattle.hs_core_lines.proofs.laws.lowering_faults_are_unique.Goals as goal

pub returns : goal.returns
returns c = one_fault
