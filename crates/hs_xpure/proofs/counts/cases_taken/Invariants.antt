use Rattle.std.proofs.Common.{◌≡◌, take}
use Rattle.hs_xpure.specs.Counts.{capped, listed, cases_taken}
use Rattle.hs_xpure.proofs.counts.cases_taken.Given as goal

abbrev pub invariant-loop-case : goal.invariant-loop-case
invariant-loop-case l = l.total ≡ capped (cases_taken (listed l.counts) (take l.case-index l.cases))
