use Rattle.std.proofs.Common.{◌≡◌, take}
use Rattle.hs_norm.proofs.resolved.copy_pairs.Given as goal

abbrev pub invariant-loop-pair : goal.invariant-loop-pair
invariant-loop-pair l = l.all ≡ take l.pair-index l.pairs
