use Rattle.std.proofs.Common.{◌≡◌, take, filter}
use Rattle.hs_norm_item.specs.Free.{is_told_open}
use Rattle.hs_norm_item.proofs.entailments.opens_by.Given as goal

abbrev pub invariant-loop-v : goal.invariant-loop-v
invariant-loop-v l = l.opens ≡ filter (is_told_open l.left l.right) (take l.v-index l.vars)
