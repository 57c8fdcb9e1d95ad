use Rattle.std.proofs.Common.{◌≡◌, take, map}
use Rattle.hs_lower.specs.Lowering.{pair_of}
use Rattle.hs_lower.proofs.lowering.pairs_of.Given as goal

abbrev pub invariant-loop-p : goal.invariant-loop-p
invariant-loop-p l = l.all ≡ map pair_of (take l.p-index l.pairs)
