use Rattle.std.proofs.Common.{◌≡◌, ◌++◌, length, reverse}
use Rattle.hs_core.specs.Set.{optional}
use Rattle.hs_verify.proofs.concluding.premises.Given as goal

abbrev pub invariant-loop-end : goal.invariant-loop-end
invariant-loop-end l = l.all ++ reverse l.turned ≡ optional l.fn.goal ++ reverse l.fn.turned

abbrev pub decreases-loop-end : goal.decreases-loop-end
decreases-loop-end l = length l.turned
