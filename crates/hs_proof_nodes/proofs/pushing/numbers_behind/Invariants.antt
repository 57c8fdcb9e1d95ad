use Rattle.std.proofs.Common.{◌≡◌, ◌+◌, map, take}
use Rattle.hs_proof_nodes.proofs.pushing.numbers_behind.Given as goal

abbrev pub invariant-loop-number : goal.invariant-loop-number
invariant-loop-number l = l.all ≡ map (λ n. l.before + n) (take l.number-index l.numbers)
