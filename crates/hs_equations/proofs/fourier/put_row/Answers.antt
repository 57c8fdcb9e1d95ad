use Rattle.hs_equations.specs.Rows.{IsMet}
use Rattle.hs_equations.proofs.Lists.{All-pushed}
use Rattle.hs_equations.proofs.fourier.put_row.Goals as goal

pub returns-then-is_idle : goal.returns-then-is_idle
returns-then-is_idle c = λ s h m. h

pub returns : goal.returns
returns c = λ s h m. All-pushed (IsMet s) _ _ _ c.in_ok-push.ensures.ok h m
