use Rattle.hs_equations.proofs.Lists.{ok-map}
use Rattle.hs_equations.proofs.Steps.{says-of}
use Rattle.hs_equations.proofs.fourier.joined_rows.Goals as goal

pub returns-in-Least : goal.returns-in-Least
returns-in-Least c = ok-map c.joined_with.result (λ r f s l h. f s (says-of _ _ _ c.in-Least.is l) h) c.joined_with.ensures
