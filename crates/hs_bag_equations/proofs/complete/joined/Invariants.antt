use Rattle.std.proofs.Common.{length, ◌+◌, ◌-◌, ◌≤◌}
use Rattle.hs_bag_equations.proofs.complete.joined.Given as goal

abbrev pub invariant-joining : goal.invariant-joining
invariant-joining l = (l.i ≤ length l.a) × (l.j ≤ length l.b)

abbrev pub decreases-joining : goal.decreases-joining
decreases-joining l = (length l.a - l.i) + (length l.b - l.j)

abbrev pub invariant-loop-x : goal.invariant-loop-x
invariant-loop-x l = l.j ≤ length l.b
