use Rattle.std.proofs.Common.{◌≡◌}
use Rattle.hs_claims.specs.Claims.{invariants_to}
use Rattle.hs_claims.proofs.listed.invariants_to.Given as goal

abbrev pub invariant-loop-i : goal.invariant-loop-i
invariant-loop-i l = l.all ≡ invariants_to l.i
