use Rattle.std.proofs.Common.{◌+◌, arith}
use Rattle.hs_lex.proofs.Numbers.{digit_above, next_value, front_value}
use Rattle.hs_lex.proofs.piece.number.Goals as goal

pub overflow_sub-digit : goal.overflow_sub-digit
overflow_sub-digit c = digit_above c.args.digits.now c.loop-digit.digit-index c.requires c.loop-digit-test.true

pub returns-in_err-tens-clause-none : goal.returns-in_err-tens-clause-none
returns-in_err-tens-clause-none c =
    let next = next_value c.args.digits.now c.loop-digit.digit-index c.requires c.loop-digit-test.true in
    let front = front_value c.args.digits.now (c.loop-digit.digit-index + 1) in
    rw c.from_residual.ensures (omega (arith, next, front, c.in_err-tens.ensures))

pub returns-in_err-next-clause-none : goal.returns-in_err-next-clause-none
returns-in_err-next-clause-none c =
    let next = next_value c.args.digits.now c.loop-digit.digit-index c.requires c.loop-digit-test.true in
    let front = front_value c.args.digits.now (c.loop-digit.digit-index + 1) in
    rw c.from_residual-in_err-next.ensures (omega (arith, next, front, c.in_ok-tens.ensures, c.in_err-next.ensures))

pub returns-then-next-top-clause-none : goal.returns-then-next-top-clause-none
returns-then-next-top-clause-none c =
    let next = next_value c.args.digits.now c.loop-digit.digit-index c.requires c.loop-digit-test.true in
    let front = front_value c.args.digits.now (c.loop-digit.digit-index + 1) in
    omega (arith, next, front, c.in_ok-tens.ensures, c.in_ok-next.ensures)

pub loop-digit-preserved : goal.loop-digit-preserved
loop-digit-preserved c =
    let next = next_value c.args.digits.now c.loop-digit.digit-index c.requires c.loop-digit-test.true in
    (omega (arith, next, c.in_ok-tens.ensures, c.in_ok-next.ensures), omega arith)
