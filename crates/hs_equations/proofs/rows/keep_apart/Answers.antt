use Rattle.hs_equations.proofs.rows.keep_apart.Goals as goal

pub returns-then-is_apart : goal.returns-then-is_apart
returns-then-is_apart c = λ s h n. h

pub returns : goal.returns
returns c = c.keep.ensures
