use Rattle.std.proofs.Common.{◌≡◌, ◌+◌, ◌-◌, ◌++◌, suc, filter, ap, sym, ◌∙◌, arith}
use Rattle.hs_pred_lines.specs.Values.{is_asked, both_kinds, passing_to}
use Rattle.hs_pred_lines.proofs.Asked.{passing_more}
use Rattle.hs_pred_lines.proofs.values.asked_below.Goals as goal

pub loop-number-preserved : goal.loop-number-preserved
loop-number-preserved c =
    let test = is_asked c.args.left.now c.args.right.now in
    let number = c.loop-number.number in
    let before : number ≡ suc (number - 1) = omega (arith, c.loop-number.invariant.0) in
    let after : number ≡ number + 1 - 1 = omega arith in (
      omega (arith, c.loop-number.invariant.0),
      omega (arith, c.loop-number-test.true),
      c.in_ok-push_both.ensures
          ∙ ap (λ vs. vs ++ filter test (both_kinds number)) c.loop-number.invariant.2
          ∙ sym (passing_more test number (number - 1) before)
          ∙ ap (passing_to test) after,
    )

pub returns : goal.returns
returns c =
    let all : c.loop-number.number - 1 ≡ c.args.next - 1 = omega (arith, c.loop-number-test.false, c.loop-number.invariant.0, c.loop-number.invariant.1) in
    c.loop-number.invariant.2 ∙ ap (passing_to (is_asked c.args.left.now c.args.right.now)) all
