-- States of right nodes are concluded.
use Rattle.std.proofs.Common.{◌≡◌, subst}
use Rattle.hs_rules.specs.Laws.{RightStepsKeepMeaning, RightStepsStayFresh}
use Rattle.hs_judge.specs.Laws.{RightStatesAreConcluded}
use Rattle.hs_judge.proofs.Held.{IsTold, node_is}

pub right_states_are_concluded : RightStepsKeepMeaning → RightStepsStayFresh → RightStatesAreConcluded
right_states_are_concluded keep fresh defs program nodes sound none known right i n at there says =
    subst (IsTold defs program) says (node_is defs program sound none known keep fresh nodes right i n there)
