use Rattle.std.proofs.Common.{refl}
use Rattle.hs_equations.proofs.Literals.{below-row}
use Rattle.hs_equations.proofs.literal.below.Goals as goal

pub returns : goal.returns
returns c = λ s h. below-row _ _ _ _ _ _ refl refl (c.in_ok-difference.ensures s) (c.in_ok-sum.ensures s) h
