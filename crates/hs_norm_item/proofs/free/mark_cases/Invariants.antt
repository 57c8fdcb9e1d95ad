use Rattle.std.proofs.Common.{◌≡◌, take}
use Rattle.hs_norm_item.specs.Free.{mark_cases}
use Rattle.hs_norm_item.proofs.free.mark_cases.Given as goal

abbrev pub invariant-loop-case : goal.invariant-loop-case
invariant-loop-case l = l.free ≡ mark_cases (take l.case-index l.cases) l.initial.free
