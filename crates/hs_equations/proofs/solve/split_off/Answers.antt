use Rattle.hs_equations.specs.Claims.{IsCase}
use Rattle.hs_equations.proofs.Lists.{All-last}
use Rattle.hs_equations.proofs.solve.split_off.Goals as goal

pub returns-in-Some : goal.returns-in-Some
returns-in-Some c = λ s h.
    let parts = c.in_ok-parts.ensures s h.1 in
    let last = All-last (IsCase s) _ _ c.in-Some.case c.in-Some.ensures parts.1 in
    ((h.0, parts.0), last.1)
