use Rattle.hs_equations.specs.Rows.{IsMet}
use Rattle.hs_equations.proofs.Lists.{All-pushed}
use Rattle.hs_equations.proofs.rows.wait.Goals as goal

pub returns : goal.returns
returns c = λ s h m. (h.0, h.1, All-pushed (IsMet s) _ _ _ c.in_ok-push.ensures.ok h.2 m)
