use Rattle.hs_judge.proofs.Concluding.{right_states_are_concluded}
use Rattle.hs_judge.proofs.laws.right_states_are_concluded.Goals as goal

pub returns : goal.returns
returns c = right_states_are_concluded c.right_steps_keep_meaning.ensures c.right_steps_stay_fresh.ensures
