use Rattle.std.specs.List.{All}
use Rattle.hs_pure.specs.Stack.{Stack}
use Rattle.hs_equations.specs.Rows.{IsMet}
use Rattle.hs_equations.proofs.fourier.put_all.Given as goal

abbrev pub invariant-loop-low : goal.invariant-loop-low
invariant-loop-low l = (s : Stack) → All (IsMet s) l.old → All (IsMet s) l.fn.rows → All (IsMet s) l.now
