use Rattle.std.proofs.Common.{rules, ◌≡◌, Some, sym, subst}
use Rattle.hs_question.specs.Asked.{SidesAreLow}
use Rattle.hs_choices.proofs.asking.ask.Goals as goal

pub refutation-requires-clause-left_low : goal.refutation-requires-clause-left_low
refutation-requires-clause-left_low c =
    let same : Some c.get.result.now ≡ c.in_ok-q.field-0 = search rules in
    let low : SidesAreLow (Some c.get.result.now) = subst SidesAreLow (sym same) c.in_ok-q.ensures.low in
    low.0

pub refutation-requires-clause-right_low : goal.refutation-requires-clause-right_low
refutation-requires-clause-right_low c =
    let same : Some c.get.result.now ≡ c.in_ok-q.field-0 = search rules in
    let low : SidesAreLow (Some c.get.result.now) = subst SidesAreLow (sym same) c.in_ok-q.ensures.low in
    low.1
