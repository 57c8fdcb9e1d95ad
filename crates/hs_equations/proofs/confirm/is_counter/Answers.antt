use Rattle.hs_equations.proofs.confirm.is_counter.Goals as goal

pub returns-then-is_true : goal.returns-then-is_true
returns-then-is_true c = λ t. (c.is_true.ensures c.if-is_true.true, c.is_false.ensures t)
