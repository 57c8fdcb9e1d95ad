use Rattle.std.proofs.Common.{◌≡◌, drop}
use Rattle.hs_unit.specs.Settling.{are_settled}
use Rattle.hs_unit.proofs.question.are_settled.Given as goal

abbrev pub invariant-loop-c : goal.invariant-loop-c
invariant-loop-c l = are_settled (drop l.c-index l.right) ≡ are_settled l.right
