use Rattle.std.proofs.Common.{◌≡◌, drop}
use Rattle.hs_pure.specs.Eval.{found}
use Rattle.hs_print.proofs.values.number_of.Given as goal

abbrev pub invariant-loop-n : goal.invariant-loop-n
invariant-loop-n l = found (drop l.n-index l.v.numbers) l.x ≡ found l.v.numbers l.x
