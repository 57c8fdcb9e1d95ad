use Rattle.std.proofs.Common.{◌≡◌, take}
use Rattle.hs_norm.proofs.resolved.copy_methods.Given as goal

abbrev pub invariant-loop-method : goal.invariant-loop-method
invariant-loop-method l = l.all ≡ take l.method-index l.methods
