use Rattle.std.proofs.Common.{sym}
use Rattle.hs_bag_equations.proofs.Worth.{alike-named}
use Rattle.hs_bag_equations.proofs.Suiting.{suits-put_bag}
use Rattle.hs_bag_equations.proofs.equations.solve.Goals as goal

pub returns-in-Some-clause-worth : goal.returns-in-Some-clause-worth
returns-in-Some-clause-worth c = λ s h w. c.add.ensures.worth s
    (alike-named s c.args.found.now w c.args.a.now c.args.b.now c.in_ok-a.a c.in_ok-b.b c.in-Some.v (rw c.as_slice.ensures at c.in_ok-a.ensures) (rw c.as_slice-2.ensures at c.in_ok-b.ensures) (rw c.get.ensures at c.in-Some.ensures) h) w

pub returns-in-Some-clause-suit : goal.returns-in-Some-clause-suit
returns-in-Some-clause-suit c = λ n f g w. c.add.ensures.suit n (suits-put_bag n c.args.found.now w c.args.b.now c.in_ok-b.b (rw c.as_slice-2.ensures at c.in_ok-b.ensures) g) w

pub returns-in-Some-solved_for-clause-worth : goal.returns-in-Some-solved_for-clause-worth
returns-in-Some-solved_for-clause-worth c = λ s h w. c.add-in-Some-solved_for.ensures.worth s
    (alike-named s c.args.found.now w c.args.b.now c.args.a.now c.in_ok-b.b c.in_ok-a.a c.in-Some-solved_for.v (rw c.as_slice-2.ensures at c.in_ok-b.ensures) (rw c.as_slice.ensures at c.in_ok-a.ensures) (rw c.get-3.ensures at c.in-Some-solved_for.ensures) (λ x. sym (h x))) w

pub returns-in-Some-solved_for-clause-suit : goal.returns-in-Some-solved_for-clause-suit
returns-in-Some-solved_for-clause-suit c = λ n f g w. c.add-in-Some-solved_for.ensures.suit n (suits-put_bag n c.args.found.now w c.args.a.now c.in_ok-a.a (rw c.as_slice.ensures at c.in_ok-a.ensures) f) w
