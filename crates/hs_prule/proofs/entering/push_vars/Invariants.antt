use Rattle.std.proofs.Common.{◌≡◌, ◌++◌, take, map, Some}
use Rattle.hs_prule.proofs.entering.push_vars.Given as goal

abbrev pub invariant-loop-v : goal.invariant-loop-v
invariant-loop-v l = l.held ≡ l.initial.held ++ map (λ v. Some v) (take l.v-index l.vs)
