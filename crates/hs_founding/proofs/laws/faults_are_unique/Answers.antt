use Rattle.hs_founding.proofs.Faults.{one_fault}
use Rattle.hs_founding.proofs.laws.faults_are_unique.Goals as goal

pub returns : goal.returns
returns c = one_fault c.first_faults_are_unique.ensures
