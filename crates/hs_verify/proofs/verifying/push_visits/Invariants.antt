use Rattle.std.proofs.Common.{◌≡◌, ◌++◌, map, length, reverse}
use Rattle.hs_verify.specs.Visited.{to_visit}
use Rattle.hs_verify.proofs.verifying.push_visits.Given as goal

abbrev pub invariant-loop-at : goal.invariant-loop-at
invariant-loop-at l = l.tasks ++ map to_visit (reverse l.states) ≡ l.initial.tasks ++ map to_visit (reverse l.initial.states)

abbrev pub decreases-loop-at : goal.decreases-loop-at
decreases-loop-at l = length l.states
