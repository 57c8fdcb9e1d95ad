use Rattle.hs_equations.proofs.Lists.{ok-map}
use Rattle.hs_equations.proofs.Steps.{says-of}
use Rattle.hs_equations.proofs.clash.clash.Goals as goal

pub returns-in-Zero : goal.returns-in-Zero
returns-in-Zero c = ok-map c.clash_zero.result (λ r f t s h. f t s (says-of _ _ _ c.in-Zero.is h)) c.clash_zero.ensures

pub returns-in-Least : goal.returns-in-Least
returns-in-Least c = ok-map c.clash_with_least.result (λ r f t s h. f t s (says-of _ _ _ c.in-Least.is h)) c.clash_with_least.ensures

pub returns-in-Apart : goal.returns-in-Apart
returns-in-Apart c = ok-map c.clash_with_apart.result (λ r f t s h. f t s (says-of _ _ _ c.in-Apart.is h)) c.clash_with_apart.ensures
