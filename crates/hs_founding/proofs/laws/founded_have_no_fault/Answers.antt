use Rattle.hs_founding.proofs.Faults.{no_fault}
use Rattle.hs_founding.proofs.laws.founded_have_no_fault.Goals as goal

pub returns : goal.returns
returns c = no_fault c.faults_exclude_founded.ensures
