use Rattle.hs_equations.proofs.solve.advanced_cases.Goals as goal

pub returns-in-Some : goal.returns-in-Some
returns-in-Some c = c.forced.ensures

pub returns-in-None : goal.returns-in-None
returns-in-None c = c.advanced_sifted.ensures
