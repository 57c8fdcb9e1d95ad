use Rattle.hs_pure.specs.Stack.{Stack}
use Rattle.hs_equations.specs.Rows.{Holds}
use Rattle.hs_equations.proofs.rows.settled.Given as goal

abbrev pub invariant-settling : goal.invariant-settling
invariant-settling l = (s : Stack) → Holds s l.fn.rows → Holds s l.now
