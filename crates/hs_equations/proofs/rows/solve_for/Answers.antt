use Rattle.hs_equations.specs.Rows.{IsMet, IsSolved}
use Rattle.hs_equations.proofs.Lists.{All-pushed, All-joined}
use Rattle.hs_equations.proofs.rows.solve_for.Goals as goal

pub returns : goal.returns
returns c = λ s h e.
    let parts = c.in_ok-parts.ensures s h.1 in
    (All-pushed (IsSolved s) _ _ _ c.in_ok-push.ensures.ok (c.in_ok-solved.ensures s e h.0) e, parts.0, All-joined (IsMet s) _ _ _ c.in_ok-append.ensures h.2 parts.1)
