use Rattle.hs_xpure.proofs.Levels.{invariants_are_shown}
use Rattle.hs_xpure.proofs.laws.invariants_are_shown.Goals as goal

pub returns : goal.returns
returns c = invariants_are_shown
