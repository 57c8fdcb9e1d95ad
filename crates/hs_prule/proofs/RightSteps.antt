-- A step that is right is a right step of the table.
use Rattle.std.proofs.Common.{◌≡◌, List, Option, Some, None, refl}
use Rattle.hs_heap.specs.declared.definitions.Defs.{Defs}
use Rattle.hs_goal.specs.declared.goal.Goal.{Goal}
use Rattle.hs_core.specs.declared.program.Program.{Program}
use Rattle.hs_core.specs.declared.state.At.{At}
use Rattle.hs_core.specs.declared.state.PRule.{PRule}
use Rattle.hs_node.specs.declared.judgement.Judgement.{Judgement}
use Rattle.hs_program_rules.specs.Table.{goal_of}
use Rattle.hs_program_rules.specs.Laws.{Entailing, IsAsked}
use Rattle.hs_prule.specs.Judged.{Gives, IsRight}
use Rattle.hs_prule.specs.Laws.{IsEntailed, IsStepBy}

pub right_step : (E : Entailing) (defs : Defs) (program : Program) (at : At) (rule : PRule) (premises : List Judgement) (right : IsRight defs program at rule premises) →
    IsEntailed defs program at rule premises E → IsStepBy defs program at rule premises E right
right_step E defs program at rule premises right entailed = record {
  fits = right.fits;
  form = right.applies.asks.form;
  residue = right.premises_are.residue;
  goal = by (goal_of defs program at rule) refl right.premises_are.gives;
  premises_are = refl;
  goal_low = right.applies.asks.low;
  low = right.applies.low right.premises_are.residue right.premises_are.gives;
}
  where
    by : (o : Option Goal) → goal_of defs program at rule ≡ o → Gives defs program at rule o premises right.premises_are.residue → IsAsked E o right.premises_are.residue
    by None is gives = tt
    by (Some g) is gives = entailed g right.premises_are.residue is gives
