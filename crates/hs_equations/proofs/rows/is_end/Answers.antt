use Rattle.hs_equations.proofs.rows.is_end.Goals as goal

pub returns-in-Least : goal.returns-in-Least
returns-in-Least c = c.are_alike.ensures
