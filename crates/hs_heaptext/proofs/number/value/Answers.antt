use Rattle.std.proofs.Common.{◌∙◌, ap}
use Rattle.std.specs.Fmt.{decimal}
use Rattle.hs_heaptext.proofs.Numbers.{not_minus, no_minus_zero}
use Rattle.hs_heaptext.proofs.number.value.Goals as goal

pub returns-in_err-number : goal.returns-in_err-number
returns-in_err-number c = rw c.from_residual-in_err-number.ensures (not_minus c.args.text.now c.in-Some.digits.now c.in-Some.ensures c.in_err-number.ensures)

pub returns-then-number-eq0 : goal.returns-then-number-eq0
returns-then-number-eq0 c = no_minus_zero c.args.text.now c.in-Some.digits.now c.in-Some.ensures (c.in_ok-number.ensures.1 ∙ ap decimal c.if-number-eq0.true)
