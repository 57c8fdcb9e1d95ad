use Rattle.std.proofs.Common.{sym, subst}
use Rattle.hs_pure.specs.Truth.{TrueAt}
use Rattle.hs_pure.proofs.Truths.{true-And}
use Rattle.hs_bag_equations.specs.Placing.{Suits}
use Rattle.hs_bag_equations.proofs.Members.{last_item}
use Rattle.hs_bag_equations.proofs.Suiting.{And-suits}
use Rattle.hs_bag_equations.proofs.place.conjunction.Goals as goal

pub returns-then-len-ne1-clause-truth : goal.returns-then-len-ne1-clause-truth
returns-then-len-ne1-clause-truth c = λ s h. subst (TrueAt s) (sym c.in_ok-new.ensures) ((true-And s c.args.members).1 h)

pub returns-then-len-ne1-clause-suit : goal.returns-then-len-ne1-clause-suit
returns-then-len-ne1-clause-suit c = λ n h. subst (Suits n) (sym c.in_ok-new.ensures) ((And-suits n c.args.members).1 h)

pub returns-in_ok-new-in-Some-clause-suit : goal.returns-in_ok-new-in-Some-clause-suit
returns-in_ok-new-in-Some-clause-suit c = λ n h. subst (Suits n) (sym c.in_ok-new-in-Some.ensures) (last_item (Suits n) c.args.members c.pop.new.self c.in-Some.member c.in-Some.ensures h)
