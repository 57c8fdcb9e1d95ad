use Rattle.hs_equations.proofs.solve.at_rest.Goals as goal

pub returns-in_default : goal.returns-in_default
returns-in_default c = λ s h. (rw c.in_default.is at c.in_ok-next.ensures) s (c.rounds.invariant s h)

pub returns-then-not-moved : goal.returns-then-not-moved
returns-then-not-moved c = λ s h. (rw c.in-Some.is at c.in_ok-next.ensures) s (c.rounds.invariant s h)

pub rounds-preserved : goal.rounds-preserved
rounds-preserved c = λ s h. (rw c.in-Some.is at c.in_ok-next.ensures) s (c.rounds.invariant s h)
