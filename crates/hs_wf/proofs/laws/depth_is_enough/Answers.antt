use Rattle.hs_wf.proofs.Depth.{depth_is_enough}
use Rattle.hs_wf.proofs.laws.depth_is_enough.Goals as goal

pub returns : goal.returns
returns c = depth_is_enough
