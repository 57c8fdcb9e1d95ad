use Rattle.hs_steps.proofs.Pushed.{placed_first}
use Rattle.hs_steps.proofs.joining.place.Goals as goal

pub returns-then-is_empty : goal.returns-then-is_empty
returns-then-is_empty c = placed_first c.args.steps.now c.args.part (c.is_empty.ensures.0 c.if-is_empty.true)
