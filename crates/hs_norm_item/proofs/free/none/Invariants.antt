use Rattle.std.proofs.Common.{◌≡◌, replicate}
use Rattle.hs_norm_item.specs.Free.{nothing}
use Rattle.hs_norm_item.proofs.free.none.Given as goal

abbrev pub invariant-loop-number : goal.invariant-loop-number
invariant-loop-number l = l.all.items ≡ replicate l._number nothing
