use Rattle.std.proofs.Common.{◌≡◌, ◌++◌, drop}
use Rattle.hs_judge.specs.Named.{named}
use Rattle.hs_judge.proofs.named.named.Given as goal

abbrev pub invariant-loop-number : goal.invariant-loop-number
invariant-loop-number l = l.all ++ named l.before (drop l.number-index l.numbers) ≡ named l.before l.numbers
