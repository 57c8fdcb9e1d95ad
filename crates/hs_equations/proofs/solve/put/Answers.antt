use Rattle.hs_equations.proofs.solve.put.Goals as goal

pub returns-then-chosen : goal.returns-then-chosen
returns-then-chosen c = c.put_chosen.ensures

pub returns-else-chosen : goal.returns-else-chosen
returns-else-chosen c = c.put_rest.ensures
