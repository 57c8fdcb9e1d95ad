use Rattle.std.proofs.Common.{rules, ◌≡◌, Some, sym, subst}
use Rattle.hs_question.specs.Asked.{SidesAreLow}
use Rattle.hs_choices.proofs.asking.asked.Goals as goal

pub returns-in_ok-boxed-in-Ok-Some-clause-low : goal.returns-in_ok-boxed-in-Ok-Some-clause-low
returns-in_ok-boxed-in-Ok-Some-clause-low c =
    let same : Some c.in_ok-boxed-in-Ok-Some.field-0 ≡ c.in-Ok-Some.field-0 = search rules in
    subst SidesAreLow (sym same) c.in-Ok-Some.ensures.low
