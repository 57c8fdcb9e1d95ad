use Rattle.hs_wf.proofs.Firsts.{faults_exclude}
use Rattle.hs_wf.proofs.laws.faults_exclude_founded.Goals as goal

pub returns : goal.returns
returns c = faults_exclude
