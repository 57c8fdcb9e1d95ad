use Rattle.std.proofs.Common.{◌≡◌, sym, ap, ◌∙◌, arith, length, get_or}
use Rattle.std.proofs.lemmas.Bool.{eqb-true, eqb-false}
use Rattle.hs_heaptext.proofs.Lines.{empty_from_length}
use Rattle.hs_heaptext.proofs.Numbers.{decimal_some, zero_text, leading_zero, no_more, one_more}
use Rattle.hs_heaptext.proofs.number.natural.Goals as goal

pub returns-in_err-first : goal.returns-in_err-first
returns-in_err-first c =
    let none = empty_from_length _ c.in_err-first.ensures.cases in
    rw c.from_residual.ensures (λ k small e. decimal_some k small (sym e ∙ none))

pub returns-then-is_empty : goal.returns-then-is_empty
returns-then-is_empty c =
    let none = empty_from_length c.in_ok-first.rest.now (eqb-true _ 0 (sym c.is_empty.ensures ∙ c.if-is_empty.true)) in
    (omega arith, c.in_ok-first.ensures.cases.0 ∙ zero_text _ _ c.if-first-eq48.true none)

pub returns-else-is_empty : goal.returns-else-is_empty
returns-else-is_empty c k small e =
    let none = leading_zero _ _ k c.if-first-eq48.true small (sym c.in_ok-first.ensures.cases.0 ∙ e) in
    eqb-false _ 0 (sym c.is_empty.ensures ∙ c.if-is_empty.false) (ap length none)

pub returns-in_err-number : goal.returns-in_err-number
returns-in_err-number c =
    let h = c.loop-digit.invariant in
    rw c.from_residual-in_err-number.ensures (no_more c.args.digits.now c.loop-digit.digit-index c.loop-digit.number h c.loop-digit-test.true c.in_err-number.ensures)

pub loop-digit-preserved : goal.loop-digit-preserved
loop-digit-preserved c =
    let first : get_or c.args.digits.now 0 0 ≡ c.in_ok-first.first.now = ap (λ l. get_or l 0 0) c.in_ok-first.ensures.cases.0 in
    let h = c.in_ok-number.ensures in
    one_more c.args.digits.now c.loop-digit.digit-index c.loop-digit.number _ c.loop-digit-test.true (λ e. c.if-first-eq48.false (sym first ∙ e)) c.loop-digit.invariant h.0 h.1 h.2
