use Rattle.std.proofs.Common.{◌≡◌, ◌+◌, map, take}
use Rattle.hs_proof_lines.proofs.moving.numbers_behind.Given as goal

abbrev pub invariant-loop-number : goal.invariant-loop-number
invariant-loop-number l = l.all ≡ map (λ p. l.before + p) (take l.number-index l.numbers)
