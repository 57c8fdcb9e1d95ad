use Rattle.hs_program_rules.specs.Laws.{Entailed}
use Rattle.hs_prule.proofs.RightSteps.{right_step}
use Rattle.hs_prule.proofs.laws.right_steps_are_steps.Goals as goal

pub returns : goal.returns
returns c = λ defs program at rule premises right entailed. right_step (Entailed defs) defs program at rule premises right entailed
