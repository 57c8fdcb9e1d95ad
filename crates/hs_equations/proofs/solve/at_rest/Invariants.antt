use Rattle.hs_pure.specs.Stack.{Stack}
use Rattle.hs_equations.specs.Claims.{HoldsAll}
use Rattle.hs_equations.proofs.solve.at_rest.Given as goal

abbrev pub invariant-rounds : goal.invariant-rounds
invariant-rounds l = (s : Stack) → HoldsAll s l.fn.state → HoldsAll s l.now
