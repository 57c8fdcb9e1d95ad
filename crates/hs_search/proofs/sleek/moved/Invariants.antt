use Rattle.std.proofs.Common.{◌≡◌, ◌++◌, length, reverse}
use Rattle.hs_search.proofs.sleek.moved.Given as goal

abbrev pub invariant-loop-goal : goal.invariant-loop-goal
invariant-loop-goal l = l.all.items ++ reverse l.goals ≡ reverse l.fn.goals

abbrev pub decreases-loop-goal : goal.decreases-loop-goal
decreases-loop-goal l = length l.goals
