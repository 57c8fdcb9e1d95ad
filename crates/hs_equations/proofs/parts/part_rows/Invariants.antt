use Rattle.std.proofs.Common.{length}
use Rattle.std.specs.List.{All}
use Rattle.hs_pure.specs.Stack.{Stack}
use Rattle.hs_equations.specs.Rows.{IsMet, AreParts}
use Rattle.hs_equations.proofs.parts.part_rows.Given as goal

abbrev pub invariant-loop-row : goal.invariant-loop-row
invariant-loop-row l = (s : Stack) → All (IsMet s) l.fn.rows → All (IsMet s) l.left × AreParts s l.parts

abbrev pub decreases-loop-row : goal.decreases-loop-row
decreases-loop-row l = length l.left
