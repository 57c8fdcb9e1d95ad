use Rattle.hs_equations.proofs.Lists.{ok-map}
use Rattle.hs_equations.proofs.Steps.{says-of}
use Rattle.hs_equations.proofs.rows.take_reduced.Goals as goal

pub returns-in-Zero : goal.returns-in-Zero
returns-in-Zero c = ok-map c.take_zero.result (λ r f s h m. f s h (says-of _ _ _ c.in-Zero.is m)) c.take_zero.ensures

pub returns-in-Least : goal.returns-in-Least
returns-in-Least c = ok-map c.take_least.result (λ r f s h m. f s h (says-of _ _ _ c.in-Least.is m)) c.take_least.ensures

pub returns-in-Apart : goal.returns-in-Apart
returns-in-Apart c = ok-map c.take_apart.result (λ r f s h m. f s h (says-of _ _ _ c.in-Apart.is m)) c.take_apart.ensures
