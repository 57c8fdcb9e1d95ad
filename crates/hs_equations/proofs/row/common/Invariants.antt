use Rattle.hs_equations.proofs.row.common.Given as goal

abbrev pub decreases-steps : goal.decreases-steps
decreases-steps l = l.b
