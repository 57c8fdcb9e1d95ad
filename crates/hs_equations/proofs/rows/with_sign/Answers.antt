use Rattle.hs_equations.proofs.Lists.{ok-map}
use Rattle.hs_equations.proofs.Steps.{other-sign}
use Rattle.hs_equations.proofs.rows.with_sign.Goals as goal

pub returns-then-c-lt0 : goal.returns-then-c-lt0
returns-then-c-lt0 c = ok-map c.negated.result (λ r h s z. other-sign _ _ (h s) z) c.negated.ensures
