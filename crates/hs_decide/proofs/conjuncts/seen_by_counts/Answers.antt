use Rattle.std.proofs.Common.{ap, ◌∙◌}
use Rattle.hs_pure.specs.Assertion.{assertion_of}
use Rattle.hs_cooper_forms.proofs.Changes.{ok_map}
use Rattle.hs_decide.proofs.Questions.{ordered-question, low-question, implied}
use Rattle.hs_decide.proofs.conjuncts.seen_by_counts.Goals as goal

pub found-requires-clause-ordered : goal.found-requires-clause-ordered
found-requires-clause-ordered c = ordered-question c.args.a.now c.args.b.now c.get.result.now (ap assertion_of c.get.ensures ∙ c.in_ok-question.ensures) c.requires.left.ordered c.requires.right.ordered

pub found-requires-clause-low : goal.found-requires-clause-low
found-requires-clause-low c = low-question c.args.a.now c.args.b.now c.get.result.now (ap assertion_of c.get.ensures ∙ c.in_ok-question.ensures) c.requires.left.low c.requires.right.low

pub returns-clause-implied : goal.returns-clause-implied
returns-clause-implied c =
    ok_map c.found.result
    (λ r f is. implied c.args.a.now c.args.b.now c.get.result.now (ap assertion_of c.get.ensures ∙ c.in_ok-question.ensures) c.plain_truth_is_decided.ensures c.requires.right.plain c.requires.right.ordered (f is))
    c.found.ensures.implied
