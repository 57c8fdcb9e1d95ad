use Rattle.std.proofs.Common.{◌≡◌, take, ◌*ℤ◌}
use Rattle.hs_pure.specs.Stack.{Stack}
use Rattle.hs_pure.specs.Truth.{sum_at}
use Rattle.hs_equations.proofs.linear.divided_terms.Given as goal

abbrev pub invariant-loop-t : goal.invariant-loop-t
invariant-loop-t l = (s : Stack) → sum_at s (take l.t-index l.a) ≡ l.g *ℤ sum_at s l.terms
