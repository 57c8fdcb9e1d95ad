use Rattle.std.proofs.Common.{rules, ◌≡◌, length, ap, sym, ◌∙◌, arith}
use Rattle.std.proofs.lemmas.Bool.Decides.{nat_tests}
use Rattle.hs_judge.specs.Named.{named, entailments}
use Rattle.hs_judge.proofs.Judging.{step_whole, step_part}
use Rattle.hs_judge.proofs.tables.Tables.by_rule.Goals as goal

pub returns-then-len-premises : goal.returns-then-len-premises
returns-then-len-premises c =
    let is : c.as_slice.result.now ≡ entailments (named c.args.before.now c.args.premises.now) = c.as_slice.ensures ∙ c.in_ok-pairs.ensures in
    let same : length c.in_ok-pairs.pairs ≡ length c.args.premises.now = first_of (search rules, grind (arith, nat_tests, c.if-len-premises.true, c.len.ensures)) in
    step_whole c.args.self.now.defs.now c.args.self.now.program.now c.args.before.now c.args.goal.now c.args.residue.now c.args.rule.now c.args.premises.now
    c.args.self.now.atoms c.as_slice.result.now c.in_ok-answer.answer is (ap length c.as_slice.ensures ∙ same) c.in_ok-answer.ensures.judged

pub returns : goal.returns
returns c =
    let is : c.as_slice.result.now ≡ entailments (named c.args.before.now c.args.premises.now) = c.as_slice.ensures ∙ c.in_ok-pairs.ensures in
    let other : ¬ (length c.in_ok-pairs.pairs ≡ length c.args.premises.now)
    = λ e. first_of (search rules, grind (arith, nat_tests, c.if-len-premises.false, c.len.ensures, e)) in
    rw c.without_premise.ensures
    (step_part c.args.self.now.defs.now c.args.self.now.program.now c.args.before.now c.args.goal.now c.args.residue.now c.args.rule.now c.args.premises.now
    c.args.self.now.atoms c.as_slice.result.now c.in_ok-answer.answer is (λ e. other (sym (ap length c.as_slice.ensures) ∙ e)) c.in_ok-answer.ensures.judged)
