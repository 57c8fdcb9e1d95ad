use Rattle.std.proofs.Common.{ap, ◌∙◌}
use Rattle.hs_pure.specs.Assertion.{assertion_of}
use Rattle.hs_cooper_forms.proofs.Changes.{ok_map}
use Rattle.hs_decide.proofs.Questions.{ordered-question, low-question, verdict}
use Rattle.hs_decide.proofs.decide.counted.Goals as goal

pub by_reduction-requires-clause-ordered : goal.by_reduction-requires-clause-ordered
by_reduction-requires-clause-ordered c = ordered-question c.args.a.now c.args.b.now c.get.result.now (ap assertion_of c.get.ensures ∙ c.in_ok-question.ensures) c.requires.left_ordered c.requires.right_ordered

pub by_reduction-requires-clause-low : goal.by_reduction-requires-clause-low
by_reduction-requires-clause-low c = low-question c.args.a.now c.args.b.now c.get.result.now (ap assertion_of c.get.ensures ∙ c.in_ok-question.ensures) c.requires.left_low c.requires.right_low

pub returns : goal.returns
returns c =
    ok_map c.by_reduction.result
    (verdict c.args.a.now c.args.b.now c.get.result.now (ap assertion_of c.get.ensures ∙ c.in_ok-question.ensures) c.args.atoms c.plain_truth_is_decided.ensures c.requires.right_plain c.requires.right_ordered)
    c.by_reduction.ensures
