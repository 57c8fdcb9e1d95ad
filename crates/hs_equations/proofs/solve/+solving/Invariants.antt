use Rattle.std.proofs.Common.{◌+◌, ◌*◌, take}
use Rattle.std.specs.List.{All}
use Rattle.hs_pure.specs.Stack.{Stack}
use Rattle.hs_equations.specs.Claims.{IsClaimed, HoldsAll}
use Rattle.hs_equations.proofs.solve.+solving.Given as goal

abbrev pub decreases-solve : goal.decreases-solve
decreases-solve l = 8 * l.depth + 6

abbrev pub decreases-solve_at_rest : goal.decreases-solve_at_rest
decreases-solve_at_rest l = 8 * l.depth + 5

abbrev pub decreases-solve_with : goal.decreases-solve_with
decreases-solve_with l = 8 * l.depth + 4

abbrev pub decreases-solve_at : goal.decreases-solve_at
decreases-solve_at l = 8 * l.depth + 3

abbrev pub decreases-solve_place : goal.decreases-solve_place
decreases-solve_place l = 8 * l.depth + 2

abbrev pub decreases-solve_split : goal.decreases-solve_split
decreases-solve_split l = 8 * l.depth + 9

abbrev pub decreases-solve_parts : goal.decreases-solve_parts
decreases-solve_parts l = 8 * l.depth + 8

abbrev pub decreases-solve_part : goal.decreases-solve_part
decreases-solve_part l = 8 * l.depth + 7

abbrev pub invariant-solve_parts-loop-claim : goal.invariant-solve_parts-loop-claim
invariant-solve_parts-loop-claim l = (s : Stack) → HoldsAll s l.state → All (λ k. ¬ (IsClaimed s k)) (take l.claim-index l.claims)
