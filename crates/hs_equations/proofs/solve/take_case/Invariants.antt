use Rattle.std.proofs.Common.{length}
use Rattle.std.specs.List.{All}
use Rattle.hs_pure.specs.Stack.{Stack}
use Rattle.hs_equations.specs.Claims.{IsCase}
use Rattle.hs_equations.specs.Searching.{AreCases}
use Rattle.hs_equations.proofs.solve.take_case.Given as goal

abbrev pub invariant-loop-case : goal.invariant-loop-case
invariant-loop-case l = (s : Stack) → All (IsCase s) l.fn.cases → All (IsCase s) l.left × AreCases s l.parts

abbrev pub decreases-loop-case : goal.decreases-loop-case
decreases-loop-case l = length l.left
