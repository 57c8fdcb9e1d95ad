use Rattle.hs_equations.proofs.Lists.{ok-map}
use Rattle.hs_equations.proofs.Steps.{says-of}
use Rattle.hs_equations.proofs.clash.clash_with_apart.Goals as goal

pub returns-in-Zero : goal.returns-in-Zero
returns-in-Zero c = ok-map c.clash_zero.result (λ r f t s h k. f t s (says-of _ _ _ c.in-Zero.is k) h) c.clash_zero.ensures
