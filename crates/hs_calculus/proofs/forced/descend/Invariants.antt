use Rattle.std.proofs.Common.{◌≡◌, ◌+◌, length}
use Rattle.hs_calculus.specs.Steps.{Leads}
use Rattle.hs_calculus.proofs.forced.descend.Given as goal

abbrev pub invariant-loop-left : goal.invariant-loop-left
invariant-loop-left g l =
    record {
      leads : Leads (g.C.Calculus.calculus l.c) (g.C.Calculus.is_goal l.c) l.fn.place l.trail.items l.place;
      goal_is : g.C.Calculus.is_goal l.c l.place.goal;
      counted : l.fn.budget.left ≡ l.budget.left + length l.trail.items;
      cut : l.budget.is_cut ≡ l.fn.budget.is_cut;
    }

abbrev pub decreases-loop-left : goal.decreases-loop-left
decreases-loop-left g l = l.budget.left
