use Rattle.hs_equations.proofs.rows.step_by.Goals as goal

pub returns-in-Some : goal.returns-in-Some
returns-in-Some c = λ s h m. (rw c.in-Some.is at c.in_ok-next.ensures) s h m

pub returns-in-None : goal.returns-in-None
returns-in-None c = λ s h m. (rw c.in-None.is at c.in_ok-next.ensures) s h m
