use Rattle.hs_judge.proofs.Saying.{listed_entailments_hold}
use Rattle.hs_judge.proofs.laws.listed_entailments_hold.Goals as goal

pub returns : goal.returns
returns c = listed_entailments_hold c.invariants_are_shown.ensures c.right_steps_keep_meaning.ensures c.right_steps_stay_fresh.ensures
