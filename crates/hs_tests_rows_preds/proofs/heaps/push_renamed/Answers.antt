use Rattle.hs_tests_rows_preds.proofs.heaps.push_renamed.Goals as goal

pub rename-requires-clause-apart : goal.rename-requires-clause-apart
rename-requires-clause-apart c = (c.requires _).0

pub rename-requires-clause-in_range : goal.rename-requires-clause-in_range
rename-requires-clause-in_range c = (c.requires _).1
