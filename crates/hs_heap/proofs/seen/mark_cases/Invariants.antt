use Rattle.std.proofs.Common.{◌≡◌, take}
use Rattle.hs_heap.specs.Seen.{mark_cases}
use Rattle.hs_heap.proofs.seen.mark_cases.Given as goal

abbrev pub invariant-loop-case : goal.invariant-loop-case
invariant-loop-case l = l.seen ≡ mark_cases (take l.case-index l.cases) l.initial.seen
