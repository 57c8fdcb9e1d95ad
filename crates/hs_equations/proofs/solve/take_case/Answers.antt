use Rattle.hs_equations.specs.Claims.{IsCase}
use Rattle.hs_equations.proofs.Lists.{All-last}
use Rattle.hs_equations.proofs.solve.take_case.Goals as goal

pub loop-case-preserved : goal.loop-case-preserved
loop-case-preserved c = λ s h.
    let before = c.loop-case.invariant s h in
    let last = All-last (IsCase s) _ _ c.in-Some.case c.in-Some.ensures before.0 in
    (last.0, c.in_ok-parts.ensures s before.1 last.1)

pub returns : goal.returns
returns c = λ s h. (c.loop-case.invariant s h).1
