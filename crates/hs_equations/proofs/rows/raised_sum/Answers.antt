use Rattle.std.proofs.Common.{refl}
use Rattle.hs_equations.proofs.Steps.{raise}
use Rattle.hs_equations.proofs.rows.raised_sum.Goals as goal

pub returns : goal.returns
returns c = λ s h n. raise _ _ _ refl (c.in_ok-sum.ensures s) h n
