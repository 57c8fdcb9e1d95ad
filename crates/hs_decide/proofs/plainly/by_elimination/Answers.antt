use Rattle.hs_decide.proofs.Reducing.{bags-reduced, ordered-reduced, unsolved}
use Rattle.hs_decide.proofs.plainly.by_elimination.Goals as goal

pub solution-requires-clause-no_bags : goal.solution-requires-clause-no_bags
solution-requires-clause-no_bags c = bags-reduced c.args.question.now c.args.reduced.now c.requires.reduced c.bags_plain_is_of_assertion.ensures c.bagless_has_no_bags.ensures

pub solution-requires-clause-ordered : goal.solution-requires-clause-ordered
solution-requires-clause-ordered c = ordered-reduced c.args.question.now c.args.reduced.now c.requires.reduced c.bagless_is_ordered.ensures

pub returns-in-Ok-Some : goal.returns-in-Ok-Some
returns-in-Ok-Some c = c.with_plain_values.ensures c.args.atoms

pub returns-in-Ok-None : goal.returns-in-Ok-None
returns-in-Ok-None c = unsolved c.args.question.now c.args.reduced.now c.requires.reduced c.bags_plain_is_of_assertion.ensures c.bagless_is_exact.ensures (c.in-Ok-None.ensures.none c.in-Ok-None.field-0-is)
