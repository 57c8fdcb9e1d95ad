use Rattle.std.proofs.Common.{◌≡◌, drop}
use Rattle.hs_pure.specs.Eval.{found}
use Rattle.hs_exact_sum.proofs.value.number.Given as goal

abbrev pub invariant-loop-pair : goal.invariant-loop-pair
invariant-loop-pair l = found l.v.numbers l.u ≡ found (drop l.pair-index l.pair-items) l.u
