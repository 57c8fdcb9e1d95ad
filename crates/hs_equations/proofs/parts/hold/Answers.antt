use Rattle.hs_equations.specs.Rows.{IsMet}
use Rattle.hs_equations.proofs.Lists.{All-pushed}
use Rattle.hs_equations.proofs.parts.hold.Goals as goal

pub returns : goal.returns
returns c = λ s h m. (All-pushed (IsMet s) _ _ _ c.in_ok-push.ensures.ok h.0 m, h.1)
