use Rattle.std.proofs.Common.{◌≡◌, take}
use Rattle.hs_norm_item.specs.Free.{restored}
use Rattle.hs_norm_item.proofs.free.restore.Given as goal

abbrev pub invariant-loop-v : goal.invariant-loop-v
invariant-loop-v l = l.free ≡ restored l.before (take l.v-index l.vs) l.initial.free
