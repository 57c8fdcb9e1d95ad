use Rattle.std.proofs.Common.{◌≡◌, take, true}
use Rattle.std.specs.List.{fold}
use Rattle.hs_norm_item.specs.Free.{put}
use Rattle.hs_norm_item.proofs.free.mark_lin.Given as goal

abbrev pub invariant-loop-t : goal.invariant-loop-t
invariant-loop-t l = l.free ≡ fold (λ free t. put t.0 true free) l.initial.free (take l.t-index l.t-items)
