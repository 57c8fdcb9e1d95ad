use Rattle.hs_equations.specs.Rows.{IsMet}
use Rattle.hs_equations.proofs.Lists.{All-pushed, All-joined}
use Rattle.hs_equations.proofs.rows.tighten.Goals as goal

pub returns : goal.returns
returns c = λ s h low.
    let parts = c.in_ok-parts.ensures s h.1 in
    (h.0, All-pushed (IsMet s) _ _ _ c.in_ok-push.ensures.ok parts.0 low, All-joined (IsMet s) _ _ _ c.in_ok-append.ensures h.2 parts.1)
