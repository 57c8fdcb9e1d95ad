use Rattle.std.proofs.Common.{◌≡◌}
use Rattle.std.specs.List.{All}
use Rattle.hs_pure.specs.Stack.{Stack}
use Rattle.hs_pure.specs.Truth.{value}
use Rattle.hs_equations.specs.Rows.{IsSolved}
use Rattle.hs_equations.proofs.row.without_pivots.Given as goal

abbrev pub invariant-loop-e : goal.invariant-loop-e
invariant-loop-e l = (s : Stack) → All (IsSolved s) l.solved → value s l.sum ≡ value s l.fn.a
