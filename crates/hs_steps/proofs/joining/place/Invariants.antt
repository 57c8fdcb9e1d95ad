use Rattle.std.proofs.Common.{◌≡◌, ◌++◌, map, length, reverse}
use Rattle.hs_steps.specs.Joined.{shifted}
use Rattle.hs_steps.proofs.joining.place.Given as goal

abbrev pub invariant-loop-step : goal.invariant-loop-step
invariant-loop-step l = l.steps ++ map (shifted l.before) (reverse l.rest) ≡ l.initial.steps ++ map (shifted l.before) (reverse l.initial.rest)

abbrev pub decreases-loop-step : goal.decreases-loop-step
decreases-loop-step l = length l.rest
