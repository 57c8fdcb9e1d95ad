use Rattle.std.proofs.Common.{rules, ◌≡◌, Some, sym, subst}
use Rattle.hs_rules.specs.Questions.{question_of}
use Rattle.hs_question.specs.Asked.{SidesAreLow}
use Rattle.hs_erule.specs.Judged.{IsVerdict, IsDecidedVerdict, IsAnswerTo, IsDecidedTo}
use Rattle.hs_erule.proofs.Steps.{if_ok}
use Rattle.hs_erule.proofs.Verdicts.{answers, decides}
use Rattle.hs_erule.proofs.asking.answer.Goals as goal

pub verdict-requires-clause-left_low : goal.verdict-requires-clause-left_low
verdict-requires-clause-left_low c =
    let same : Some c.deref.result.now ≡ c.in-Ok-Some.field-0 = search rules in
    let low : SidesAreLow (Some c.deref.result.now) = subst SidesAreLow (sym same) c.in-Ok-Some.ensures.low in
    low.0

pub verdict-requires-clause-right_low : goal.verdict-requires-clause-right_low
verdict-requires-clause-right_low c =
    let same : Some c.deref.result.now ≡ c.in-Ok-Some.field-0 = search rules in
    let low : SidesAreLow (Some c.deref.result.now) = subst SidesAreLow (sym same) c.in-Ok-Some.ensures.low in
    low.1

pub returns-in_ok-q-in-Ok-Some-clause-judged : goal.returns-in_ok-q-in-Ok-Some-clause-judged
returns-in_ok-q-in-Ok-Some-clause-judged c =
    let defs = c.args.defs.now in
    let g = c.args.goal.now in
    let rule = c.args.rule.now in
    let atoms = c.args.atoms in
    let q = c.deref.result.now in
    let is : Some q ≡ question_of defs g rule = search rules in
    if_ok (IsVerdict atoms q) (IsAnswerTo defs g rule atoms) c.verdict.result (λ a. answers defs g rule atoms q a is) c.verdict.ensures.judged

pub returns-in_ok-q-in-Ok-Some-clause-decided : goal.returns-in_ok-q-in-Ok-Some-clause-decided
returns-in_ok-q-in-Ok-Some-clause-decided c =
    let defs = c.args.defs.now in
    let g = c.args.goal.now in
    let rule = c.args.rule.now in
    let atoms = c.args.atoms in
    let q = c.deref.result.now in
    let is : Some q ≡ question_of defs g rule = search rules in
    if_ok (IsDecidedVerdict atoms q) (IsDecidedTo defs g rule atoms) c.verdict.result (λ a. decides defs g rule atoms q a is) c.verdict.ensures.decided
