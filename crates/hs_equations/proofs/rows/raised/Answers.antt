use Rattle.std.proofs.Common.{sym, subst}
use Rattle.hs_equations.specs.Rows.{IsMet}
use Rattle.hs_equations.proofs.Lists.{ok-map}
use Rattle.hs_equations.proofs.Steps.{says-of}
use Rattle.hs_equations.proofs.rows.raised.Goals as goal

pub returns-in-Least : goal.returns-in-Least
returns-in-Least c = ok-map c.raised_sum.result (λ r f s h n. f s (says-of _ _ _ c.in-Least.is h) n) c.raised_sum.ensures

pub returns-in-Zero : goal.returns-in-Zero
returns-in-Zero c = ok-map c.copy.result (λ r e s h n. subst (IsMet s) (sym e) h) c.copy.ensures

pub returns-in-Apart : goal.returns-in-Apart
returns-in-Apart c = ok-map c.copy-in-Apart.result (λ r e s h n. subst (IsMet s) (sym e) h) c.copy-in-Apart.ensures
