use Rattle.hs_equations.proofs.Lists.{ok-map}
use Rattle.hs_equations.proofs.claim.assume_literal.Goals as goal

pub returns-in-Some : goal.returns-in-Some
returns-in-Some c = ok-map c.assume_row.result (λ r f s h e. f s h ((rw c.in-Some.is at c.in_ok-row.ensures) s e)) c.assume_row.ensures

pub returns-in-None : goal.returns-in-None
returns-in-None c = λ s h e. h
