use Rattle.std.proofs.Common.{length}
use Rattle.std.specs.List.{All}
use Rattle.hs_pure.specs.Stack.{Stack}
use Rattle.hs_equations.specs.Rows.{IsSolved}
use Rattle.hs_equations.proofs.rows.replaced.Given as goal

abbrev pub invariant-loop-old : goal.invariant-loop-old
invariant-loop-old l = (s : Stack) → IsSolved s l.e → All (IsSolved s) l.fn.solved → All (IsSolved s) l.left × All (IsSolved s) l.all

abbrev pub decreases-loop-old : goal.decreases-loop-old
decreases-loop-old l = length l.left
