use Rattle.hs_equations.proofs.Lists.{ok-map}
use Rattle.hs_equations.proofs.rows.take_zero.Goals as goal

pub returns-in_default : goal.returns-in_default
returns-in_default c = c.keep.ensures

pub returns : goal.returns
returns c = ok-map c.solve_for.result (λ r f s h z. f s h (c.in_ok-sum.ensures s z)) c.solve_for.ensures
