use Rattle.std.proofs.Common.{subst, sym}
use Rattle.hs_bag_equations.specs.Placing.{BagsSuit}
use Rattle.hs_bag_equations.proofs.equations.add.Goals as goal

pub returns-then-are_small-clause-suit : goal.returns-then-are_small-clause-suit
returns-then-are_small-clause-suit c = λ n f g. c.in_ok-more.ensures.suit n f (subst (BagsSuit n) (sym c.as_slice.ensures) g)
