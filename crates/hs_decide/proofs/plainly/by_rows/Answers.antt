use Rattle.std.proofs.Common.{◌∙◌, subst}
use Rattle.hs_pure.specs.Truth.{TrueAt}
use Rattle.hs_decide.proofs.Reducing.{bags-reduced, ordered-reduced, unsolved}
use Rattle.hs_decide.proofs.Questions.{never}
use Rattle.hs_decide.proofs.plainly.by_rows.Goals as goal

pub by_equations-requires-clause-left_bags : goal.by_equations-requires-clause-left_bags
by_equations-requires-clause-left_bags c = bags-reduced c.args.question.now c.args.reduced.now c.requires.reduced c.bags_plain_is_of_assertion.ensures c.bagless_has_no_bags.ensures

pub by_equations-requires-clause-left_ordered : goal.by_equations-requires-clause-left_ordered
by_equations-requires-clause-left_ordered c = ordered-reduced c.args.question.now c.args.reduced.now c.requires.reduced c.bagless_is_ordered.ensures

pub returns-in-Implied : goal.returns-in-Implied
returns-in-Implied c =
    unsolved c.args.question.now c.args.reduced.now c.requires.reduced c.bags_plain_is_of_assertion.ensures c.bagless_is_exact.ensures
    (λ s h. never s (subst (TrueAt s) (c.get.ensures ∙ c.in_ok-never.ensures) (c.in_ok-by_equations.ensures.implied c.in-Implied.is s h)))
