use Rattle.std.proofs.Common.{rules, ◌≡◌, [], ◌∷◌}
use Rattle.hs_bag_equations.proofs.Worth.{worth-one, worth-extended}
use Rattle.hs_bag_equations.proofs.Suiting.{suits-one, suits-extended}
use Rattle.hs_bag_equations.proofs.equations.extended.Goals as goal

pub returns-clause-worth : goal.returns-clause-worth
returns-clause-worth c =
    let is : c.push.new.self ≡ (c.args.v, c.args.b) ∷ [] = search rules in
    λ s alike w. worth-extended s c.append.new.self c.in_ok-all.all c.args.es.now c.push.new.self c.in_ok-append.ensures (rw c.as_slice.ensures at c.in_ok-all.ensures) (worth-one s c.args.v c.args.b c.push.new.self is alike) w

pub returns-clause-suit : goal.returns-clause-suit
returns-clause-suit c =
    let is : c.push.new.self ≡ (c.args.v, c.args.b) ∷ [] = search rules in
    λ n h w. suits-extended n c.append.new.self c.in_ok-all.all c.args.es.now c.push.new.self c.in_ok-append.ensures (rw c.as_slice.ensures at c.in_ok-all.ensures) (suits-one n c.args.v c.args.b c.push.new.self is h) w
