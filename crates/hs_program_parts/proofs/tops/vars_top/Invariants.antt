use Rattle.std.proofs.Common.{◌≡◌, take}
use Rattle.hs_heap.specs.Variables.{vars_top}
use Rattle.hs_program_parts.proofs.tops.vars_top.Given as goal

abbrev pub invariant-loop-v : goal.invariant-loop-v
invariant-loop-v l = l.top ≡ vars_top (take l.v-index l.vs)
