use Rattle.hs_pred_lines.proofs.Told.{all_shown}
use Rattle.hs_pred_lines.proofs.laws.shown_invariants_hold.Goals as goal

pub returns : goal.returns
returns c = λ r atoms lines sound told none. c.invariants_are_shown.ensures r.defs sound (all_shown r atoms lines told none)
