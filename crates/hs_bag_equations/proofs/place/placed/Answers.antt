use Rattle.hs_bag_equations.proofs.Suiting.{suits-result}
use Rattle.hs_bag_equations.proofs.place.placed.Goals as goal

pub returns-in-Ok-clause-plain : goal.returns-in-Ok-clause-plain
returns-in-Ok-clause-plain c = (suits-result c.args.p.now c.in-Ok.pure c.in_ok-bags.bags c.requires.ordered c.requires.plain c.in_ok-bags.ensures.suit (rw c.as_slice.ensures at c.in-Ok.ensures.suit)).plain

pub returns-in-Ok-clause-ordered : goal.returns-in-Ok-clause-ordered
returns-in-Ok-clause-ordered c = (suits-result c.args.p.now c.in-Ok.pure c.in_ok-bags.bags c.requires.ordered c.requires.plain c.in_ok-bags.ensures.suit (rw c.as_slice.ensures at c.in-Ok.ensures.suit)).ordered
