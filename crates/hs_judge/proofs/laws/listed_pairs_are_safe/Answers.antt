use Rattle.hs_judge.proofs.Saying.{listed_pairs_are_safe}
use Rattle.hs_judge.proofs.laws.listed_pairs_are_safe.Goals as goal

pub returns : goal.returns
returns c =
    listed_pairs_are_safe c.invariants_are_shown.ensures c.right_steps_keep_meaning.ensures c.right_steps_stay_fresh.ensures c.concluded_states_are_safe.ensures
