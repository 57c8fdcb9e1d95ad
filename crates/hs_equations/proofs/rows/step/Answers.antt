use Rattle.hs_equations.specs.Rows.{IsMet}
use Rattle.hs_equations.proofs.Lists.{ok-map, some-at}
use Rattle.hs_equations.proofs.rows.step.Goals as goal

pub returns-in-Some : goal.returns-in-Some
returns-in-Some c = ok-map c.step_by.result (λ r f s h. let p = c.pop_row-rows.ensures s h in f s p.0 (some-at (IsMet s) _ _ c.in-Some.is p.1)) c.step_by.ensures

pub returns-in-None : goal.returns-in-None
returns-in-None c = λ s h. (c.pop_row-rows.ensures s h).0
