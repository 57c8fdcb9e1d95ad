use Rattle.std.proofs.Common.{◌≡◌, ◌++◌, map, take}
use Rattle.hs_claims.specs.Claims.{entailment_claim}
use Rattle.hs_claims.proofs.listed.push_entailments.Given as goal

abbrev pub invariant-loop-e : goal.invariant-loop-e
invariant-loop-e l = l.all ≡ l.initial.all ++ map entailment_claim (take l.e-index l.entailments)
