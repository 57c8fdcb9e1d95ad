use Rattle.hs_equations.proofs.Lists.{ok-map}
use Rattle.hs_equations.proofs.Division.{zero-part}
use Rattle.hs_equations.proofs.row.without_pivot.Goals as goal

pub returns-in-Some : goal.returns-in-Some
returns-in-Some c = ok-map c.combined.result (λ r h s e. zero-part _ _ _ _ e (h s)) c.combined.ensures
