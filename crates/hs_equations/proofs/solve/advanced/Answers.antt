use Rattle.hs_equations.proofs.Lists.{ok-map}
use Rattle.hs_equations.proofs.solve.advanced.Goals as goal

pub returns-in-Some : goal.returns-in-Some
returns-in-Some c = ok-map c.advanced_cases.result (λ r f s h. f s ((rw c.in-Some.is at c.in_ok-taken.ensures) s h.0, h.1)) c.advanced_cases.ensures

pub returns : goal.returns
returns c = λ s h. (rw c.in-None.is at c.in_ok-taken.ensures) s h.0
