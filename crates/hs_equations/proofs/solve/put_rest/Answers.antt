use Rattle.hs_equations.specs.Claims.{IsCase}
use Rattle.hs_equations.proofs.Lists.{All-pushed}
use Rattle.hs_equations.proofs.solve.put_rest.Goals as goal

pub returns : goal.returns
returns c = λ s h k. (All-pushed (IsCase s) _ _ _ c.in_ok-push.ensures.ok h.0 k, h.1)
