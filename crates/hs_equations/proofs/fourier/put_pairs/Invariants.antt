use Rattle.std.specs.List.{All}
use Rattle.hs_pure.specs.Stack.{Stack}
use Rattle.hs_equations.specs.Rows.{IsMet}
use Rattle.hs_equations.proofs.fourier.put_pairs.Given as goal

abbrev pub invariant-loop-high : goal.invariant-loop-high
invariant-loop-high l = (s : Stack) → IsMet s l.low → All (IsMet s) l.highs → All (IsMet s) l.fn.rows → All (IsMet s) l.now
