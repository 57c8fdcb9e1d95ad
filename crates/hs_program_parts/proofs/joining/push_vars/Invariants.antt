use Rattle.std.proofs.Common.{◌≡◌, ◌++◌, take}
use Rattle.hs_program_parts.proofs.joining.push_vars.Given as goal

abbrev pub invariant-loop-v : goal.invariant-loop-v
invariant-loop-v l = l.all ≡ l.initial.all ++ take l.v-index l.vs
