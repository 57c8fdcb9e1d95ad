use Rattle.std.proofs.Common.{◌≡◌, take}
use Rattle.std.specs.List.{fold}
use Rattle.hs_heap.specs.Seen.{marked}
use Rattle.hs_heap.proofs.seen.mark_lin.Given as goal

abbrev pub invariant-loop-t : goal.invariant-loop-t
invariant-loop-t l = l.seen ≡ fold (λ seen t. marked t.0 seen) l.initial.seen (take l.t-index l.t-items)
