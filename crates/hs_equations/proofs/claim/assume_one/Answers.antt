use Rattle.hs_equations.specs.Claims.{IsCase}
use Rattle.hs_equations.proofs.Lists.{All-pushed}
use Rattle.hs_equations.proofs.claim.assume_one.Goals as goal

pub returns : goal.returns
returns c = λ s h any. (h.0, All-pushed (IsCase s) _ _ _ c.in_ok-push.ensures.ok h.1 (c.in_ok-claims.ensures s any))
