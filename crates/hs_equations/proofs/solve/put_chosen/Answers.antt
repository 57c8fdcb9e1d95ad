use Rattle.hs_equations.specs.Claims.{IsCase}
use Rattle.hs_equations.proofs.Lists.{All-pushed}
use Rattle.hs_equations.proofs.solve.put_chosen.Goals as goal

pub returns : goal.returns
returns c = λ s h k. (h.0, All-pushed (IsCase s) _ _ _ c.in_ok-push.ensures.ok h.1 k)
