use Rattle.hs_equations.proofs.Lists.{ok-map}
use Rattle.hs_equations.proofs.fourier.put_pair.Goals as goal

pub returns-in_default : goal.returns-in_default
returns-in_default c = λ s l h a. a

pub returns : goal.returns
returns c = ok-map c.put_row.result (λ r f s l h a. f s a (c.in_ok-row.ensures s l h)) c.put_row.ensures
