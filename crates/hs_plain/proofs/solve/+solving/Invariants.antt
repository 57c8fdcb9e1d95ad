use Rattle.std.proofs.Common.{length, ◌+◌, ◌*◌}
use Rattle.hs_plain.proofs.solve.+solving.Given as goal

abbrev pub decreases-solve : goal.decreases-solve
decreases-solve l = 3 * length l.variables.now

abbrev pub decreases-solve_from : goal.decreases-solve_from
decreases-solve_from l = 3 * length l.later.now + 2

abbrev pub decreases-solve_later : goal.decreases-solve_later
decreases-solve_later l = 3 * length l.later.now + 1
