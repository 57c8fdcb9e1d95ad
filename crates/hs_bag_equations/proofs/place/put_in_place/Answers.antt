use Rattle.std.proofs.Common.{sym, subst}
use Rattle.std.specs.List.{All}
use Rattle.std.proofs.lemmas.List.Elements.{All-nil}
use Rattle.hs_bag_equations.specs.Placing.{Suits}
use Rattle.hs_bag_equations.proofs.place.put_in_place.Goals as goal

pub returns-clause-suit : goal.returns-clause-suit
returns-clause-suit c = λ n e h. c.in_ok-conjunction.ensures.suit n (c.add_members.ensures.suit n e h (subst (All (Suits n)) (sym c.new-members.ensures) (All-nil (Suits n))))
