use Rattle.hs_equations.proofs.Lists.{ok-map}
use Rattle.hs_equations.proofs.solve.advanced_sifted.Goals as goal

pub returns-in-Some : goal.returns-in-Some
returns-in-Some c = ok-map c.forced.result (λ r f s h. f s (c.in_ok-sifted.ensures s h)) c.forced.ensures

pub returns-in-None : goal.returns-in-None
returns-in-None c = λ s h. c.in_ok-sifted.ensures s h
