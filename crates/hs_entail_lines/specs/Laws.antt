-- What the layer above uses of entailments.
use Rattle.hs_heap.specs.declared.definitions.Defs.{Defs}
use Rattle.hs_goal.specs.Shape.{GoalFits}
use Rattle.hs_norm_item.specs.declared.forms.Entailment.{Entailment}
use Rattle.hs_norm_sound.specs.Claims.{EntailmentIsNormal, HasDisjunct}
use Rattle.hs_claims.specs.Claims.{goal_of}

-- the goal of an entailment in normal form is well formed
abbrev pub EntailmentsAreGoals : Type 0
EntailmentsAreGoals = (defs : Defs) (e : Entailment) → EntailmentIsNormal defs e → HasDisjunct e.right → GoalFits defs (goal_of e)
