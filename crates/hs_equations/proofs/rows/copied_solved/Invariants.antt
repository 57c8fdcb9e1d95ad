use Rattle.std.proofs.Common.{◌≡◌, take}
use Rattle.hs_equations.proofs.rows.copied_solved.Given as goal

abbrev pub invariant-loop-e : goal.invariant-loop-e
invariant-loop-e l = l.all ≡ take l.e-index l.solved
