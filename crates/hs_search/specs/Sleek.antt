-- What the calculus of entailments asks of a goal, and how its answers are read.
use Rattle.hs_heap.specs.declared.definitions.Defs.{Defs}
use Rattle.hs_heap.specs.Sound.{IsSound}
use Rattle.hs_goal.specs.declared.goal.Goal.{Goal}
use Rattle.hs_goal.specs.declared.rule.Limits.{Limits}
use Rattle.hs_goal.specs.declared.rule.Obligation.{Obligation}
use Rattle.hs_goal.specs.declared.rule.Cause.{Cause}
use Rattle.hs_goal.specs.declared.rule.Cause.TheVariants as cause
use Rattle.hs_goal.specs.Shape.{GoalFits}
use Rattle.hs_erule.specs.declared.step.Proof.{Proof}
use Rattle.hs_calculus.specs.declared.calculus.Stop.{Stop}
use Rattle.hs_calculus.specs.declared.calculus.Stop.TheVariants as stop
use Rattle.hs_calculus.specs.declared.answer.Cause.{Cause as Found}
use Rattle.hs_calculus.specs.declared.answer.Cause.TheVariants as found
use Rattle.hs_calculus.specs.declared.answer.Answer.{Answer}
use Rattle.hs_calculus.specs.declared.answer.Answer.TheVariants as answer
use Rattle.hs_choices.specs.declared.error.Spent.{Spent}
use Rattle.hs_choices.specs.declared.error.Spent.TheVariants as spent
use Rattle.hs_choices.specs.declared.error.AskError.{AskError}
use Rattle.hs_choices.specs.declared.error.AskError.TheVariants as ask
use Rattle.hs_search.specs.declared.answer.SleekAnswer.{SleekAnswer}
use Rattle.hs_search.specs.declared.answer.SleekAnswer.TheVariants as sleek
use Rattle.hs_search.specs.Answer.{LimitsFit}

-- the goal can be searched for
pub record IsSleekGoal (defs : Defs) (limits : Limits) (g : Goal) : Type 0 where
  pub sound : IsSound defs
  pub limits_fit : LimitsFit limits
  pub fits : GoalFits defs g

-- where a question can't be answered the search stops
abbrev pub stop_of : AskError → Stop Spent
stop_of (ask.Spent s) = stop.Spent s
stop_of ask.Memory = stop.Memory

-- causes and answers of the search of a calculus, as those of entailments
abbrev pub cause_of : Found Spent Obligation → Cause
cause_of found.Goals = cause.Goals
cause_of (found.Spent spent.Numbers) = cause.Numbers
cause_of (found.Spent (spent.Atoms q)) = cause.Atoms q
cause_of (found.Spent (spent.Wide q)) = cause.Wide q
cause_of found.Rank = cause.Rank
cause_of (found.Failed o) = cause.Failed o

abbrev pub answer_of : Answer Proof Spent Obligation → SleekAnswer
answer_of (answer.Valid proofs) = sleek.Valid proofs.items
answer_of (answer.Unknown cause) = sleek.Unknown (cause_of cause)
