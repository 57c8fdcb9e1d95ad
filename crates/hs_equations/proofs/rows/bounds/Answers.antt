use Rattle.hs_equations.proofs.Lists.{ok-map}
use Rattle.hs_equations.proofs.Steps.{says-of, at-end}
use Rattle.hs_equations.proofs.rows.bounds.Goals as goal

pub returns-in-Least : goal.returns-in-Least
returns-in-Least c = ok-map c.are_opposite.result (λ r f t s h low. at-end _ _ (f t s) (says-of _ _ _ c.in-Least.is h) low) c.are_opposite.ensures
