use Rattle.std.proofs.Common.{refl}
use Rattle.hs_equations.proofs.Literals.{at-most-row}
use Rattle.hs_equations.proofs.literal.at_most.Goals as goal

pub returns : goal.returns
returns c = λ s h. at-most-row _ _ _ _ refl (c.in_ok-sum.ensures s) h
