use Rattle.hs_tests_rows_decide.proofs.answers.answered.Goals as goal

pub implies-requires-clause-left_low : goal.implies-requires-clause-left_low
implies-requires-clause-left_low c = c.is_decidable.ensures.low c.if-not-is_decidable.false

pub implies-requires-clause-right_low : goal.implies-requires-clause-right_low
implies-requires-clause-right_low c = c.is_decidable-else-not-is_decidable.ensures.low c.if-not-is_decidable-2.false
