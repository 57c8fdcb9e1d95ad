use Rattle.std.proofs.Common.{◌≡◌, take}
use Rattle.hs_norm.proofs.resolved.copy_names.Given as goal

abbrev pub invariant-loop-one : goal.invariant-loop-one
invariant-loop-one l = l.all ≡ take l.one-index l.names
