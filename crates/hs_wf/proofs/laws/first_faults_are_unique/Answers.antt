use Rattle.hs_wf.proofs.Unique.{first_faults_are_unique}
use Rattle.hs_wf.proofs.laws.first_faults_are_unique.Goals as goal

pub returns : goal.returns
returns c = first_faults_are_unique
