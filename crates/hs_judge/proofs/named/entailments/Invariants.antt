use Rattle.std.proofs.Common.{◌≡◌, ◌++◌, drop}
use Rattle.hs_judge.specs.Named.{named, entailments}
use Rattle.hs_judge.proofs.named.entailments.Given as goal

abbrev pub invariant-loop-number : goal.invariant-loop-number
invariant-loop-number l = l.all ++ entailments (named l.before (drop l.number-index l.numbers)) ≡ entailments (named l.before l.numbers)
