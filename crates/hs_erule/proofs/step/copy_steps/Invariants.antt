use Rattle.std.proofs.Common.{◌≡◌, take}
use Rattle.hs_erule.proofs.step.copy_steps.Given as goal

abbrev pub invariant-loop-step : goal.invariant-loop-step
invariant-loop-step l = l.all ≡ take l.step-index l.steps
