use Rattle.hs_hip_lines.proofs.Accepting.{accepted_pairs_are_safe}
use Rattle.hs_hip_lines.proofs.laws.accepted_pairs_are_safe.Goals as goal

pub returns : goal.returns
returns c = accepted_pairs_are_safe c.right_states_are_concluded.ensures c.concluded_states_are_safe.ensures
