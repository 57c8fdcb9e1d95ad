use Rattle.std.proofs.Common.{◌≡◌, map, length}
use Rattle.hs_calculus.specs.Steps.{AreAlong, along}
use Rattle.hs_calculus.proofs.join.join_trail.Given as goal

abbrev pub invariant-loop-goal : goal.invariant-loop-goal
invariant-loop-goal g l =
    record {
      are_along : AreAlong (g.C.Calculus.calculus l.c) (g.C.Calculus.is_goal l.c) l.trail.items l.joined.items;
      same : map (along (g.C.Calculus.calculus l.c) l.fn.trail.items) l.fn.proofs.items ≡ map (along (g.C.Calculus.calculus l.c) l.trail.items) l.joined.items;
    }

abbrev pub decreases-loop-goal : goal.decreases-loop-goal
decreases-loop-goal g l = length l.trail.items
