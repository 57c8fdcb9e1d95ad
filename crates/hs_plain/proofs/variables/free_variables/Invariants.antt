use Rattle.std.proofs.Common.{◌≡◌, take}
use Rattle.std.specs.List.{filter}
use Rattle.hs_pure.specs.Occurs.{is_free}
use Rattle.hs_plain.proofs.variables.free_variables.Given as goal

abbrev pub invariant-loop-v : goal.invariant-loop-v
invariant-loop-v l = l.free.items ≡ filter (λ v. is_free v l.p) (take l.v-index l.v-items)
