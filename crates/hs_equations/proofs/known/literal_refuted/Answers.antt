use Rattle.hs_equations.proofs.Lists.{ok-map}
use Rattle.hs_equations.proofs.known.literal_refuted.Goals as goal

pub returns-in-Some : goal.returns-in-Some
returns-in-Some c = ok-map c.is_refuted.result (λ r f t s h e. f t s h ((rw c.in-Some.is at c.in_ok-row.ensures) s e)) c.is_refuted.ensures
