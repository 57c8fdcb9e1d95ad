use Rattle.std.proofs.Common.{length}
use Rattle.std.specs.List.{All}
use Rattle.hs_pure.specs.Stack.{Stack}
use Rattle.hs_equations.specs.Claims.{IsCase, HoldsAll}
use Rattle.hs_equations.proofs.known.sifted_cases.Given as goal

abbrev pub invariant-loop-case : goal.invariant-loop-case
invariant-loop-case l = (s : Stack) → HoldsAll s l.fn.state → All (IsCase s) l.left × All (IsCase s) l.kept

abbrev pub decreases-loop-case : goal.decreases-loop-case
decreases-loop-case l = length l.left
