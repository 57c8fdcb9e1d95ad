use Rattle.std.proofs.Common.{◌≡◌, take, map}
use Rattle.hs_pure.specs.Rename.{renaming}
use Rattle.hs_heap.specs.Renamed.{renamed_disjunct}
use Rattle.hs_heap.proofs.rename.put_in_cases.Given as goal

abbrev pub invariant-loop-case : goal.invariant-loop-case
invariant-loop-case l = l.all ≡ map (renamed_disjunct (renaming l.pairs)) (take l.case-index l.cases)
