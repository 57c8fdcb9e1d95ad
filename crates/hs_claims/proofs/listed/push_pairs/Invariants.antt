use Rattle.std.proofs.Common.{◌≡◌, ◌++◌}
use Rattle.hs_claims.specs.Claims.{pairs_to}
use Rattle.hs_claims.proofs.listed.push_pairs.Given as goal

abbrev pub invariant-loop-method : goal.invariant-loop-method
invariant-loop-method l = (l.m ≡ l.method-index) × (l.all ≡ l.initial.all ++ pairs_to l.program l.method-index)
