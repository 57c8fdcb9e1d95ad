use Rattle.std.proofs.Common.{◌≡◌, take}
use Rattle.hs_heap.specs.Seen.{mark_vars}
use Rattle.hs_heap.proofs.seen.mark_vars.Given as goal

abbrev pub invariant-loop-v : goal.invariant-loop-v
invariant-loop-v l = l.seen ≡ mark_vars (take l.v-index l.vs) l.initial.seen
