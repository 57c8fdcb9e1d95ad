use Rattle.std.proofs.Common.{◌≡◌, drop}
use Rattle.hs_pure.specs.Eval.{found}
use Rattle.hs_pure.proofs.eval.number_in.Given as goal

abbrev pub invariant-loop-pair : goal.invariant-loop-pair
invariant-loop-pair l = found l.numbers l.v ≡ found (drop l.pair-index l.numbers) l.v
