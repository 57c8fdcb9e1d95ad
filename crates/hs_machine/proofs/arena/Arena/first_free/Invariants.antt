use Rattle.hs_machine.specs.Arena.{AreTaken}
use Rattle.hs_machine.proofs.arena.Arena.first_free.Given as goal

abbrev pub invariant-loop-place : goal.invariant-loop-place
invariant-loop-place l = AreTaken l.self-inside.heap l.place
