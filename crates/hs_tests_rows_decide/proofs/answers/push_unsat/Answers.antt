use Rattle.hs_tests_rows_decide.proofs.answers.push_unsat.Goals as goal

pub unsat-requires-clause-low : goal.unsat-requires-clause-low
unsat-requires-clause-low c = c.is_decidable.ensures.low c.if-not-is_decidable.false
