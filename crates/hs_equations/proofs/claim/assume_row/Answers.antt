use Rattle.hs_equations.proofs.claim.assume_row.Goals as goal

pub returns : goal.returns
returns c = λ s h m. (c.in_ok-rows.ensures s h.0 m, h.1)
