use Rattle.std.proofs.Common.{◌≡◌, length}
use Rattle.hs_verify.specs.Tree.{PairsMiss}
use Rattle.hs_verify.proofs.finding.first_pair.Given as goal

abbrev pub invariant-loop-i : goal.invariant-loop-i
invariant-loop-i l = record {
  each : length l.causes ≡ l.i;
  missed : PairsMiss l.defs l.program l.limits l.at l.causes;
}
