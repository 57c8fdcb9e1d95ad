use Rattle.std.proofs.Common.{◌≡◌, take}
use Rattle.hs_calculus.proofs.extend.copy_all.Given as goal

abbrev pub invariant-loop-proof : goal.invariant-loop-proof
invariant-loop-proof g l = l.copy.items ≡ take l.proof-index l.row
