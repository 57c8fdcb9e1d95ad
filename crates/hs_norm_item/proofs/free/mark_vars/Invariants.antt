use Rattle.std.proofs.Common.{◌≡◌, take}
use Rattle.hs_norm_item.specs.Free.{mark_vars}
use Rattle.hs_norm_item.proofs.free.mark_vars.Given as goal

abbrev pub invariant-loop-v : goal.invariant-loop-v
invariant-loop-v l = l.free ≡ mark_vars (take l.v-index l.vs) l.initial.free
