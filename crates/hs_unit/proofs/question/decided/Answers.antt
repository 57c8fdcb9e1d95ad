use Rattle.std.proofs.Common.{◌≡◌, true, false, Some, sym, ap, ◌∙◌}
use Rattle.hs_pure.specs.Assertion.{assertion_of}
use Rattle.hs_elimination.proofs.Order.{order_is}
use Rattle.hs_unit.specs.Sides.{are_zero, forms}
use Rattle.hs_unit.specs.Settling.{settlement_of}
use Rattle.hs_unit.proofs.Reductions.{none-of_left, none-of_right, not-zero, found_some, found-reduction}
use Rattle.hs_unit.proofs.Verdicts.{reduced-small}
use Rattle.hs_unit.proofs.question.decided.Goals as goal

pub returns-in_default : goal.returns-in_default
returns-in_default c = sym (ap settlement_of (none-of_left (assertion_of c.args.a.now) (assertion_of c.args.b.now) c.in_ok-left.field-0 c.in_ok-left.ensures c.in_default.is))

pub returns-in_default-2 : goal.returns-in_default-2
returns-in_default-2 c = sym (ap settlement_of (none-of_right (assertion_of c.args.a.now) (assertion_of c.args.b.now) c.in_ok-right.field-0 c.in_ok-right.ensures c.in_default-2.is))

pub returns-then-not-are_zero : goal.returns-then-not-are_zero
returns-then-not-are_zero c =
    let z : are_zero c.in-Some.left ≡ false = rw (c.are_zero.ensures, c.as_slice.ensures) at c.if-not-are_zero.true in
    sym (ap settlement_of (not-zero (assertion_of c.args.a.now) (assertion_of c.args.b.now) c.in-Some.left (found_some (assertion_of c.args.a.now) c.in_ok-left.field-0 c.in-Some.left c.in_ok-left.ensures c.in-Some.is) z))

pub returns-in_default-3 : goal.returns-in_default-3
returns-in_default-3 c =
    let z : are_zero c.in-Some.left ≡ true = rw (c.are_zero.ensures, c.as_slice.ensures) at c.if-not-are_zero.false in
    let l : c.in_ok-left-2.left ≡ forms c.in-Some.left = rw c.as_slice-2.ensures at c.in_ok-left-2.ensures in
    let k = found-reduction (assertion_of c.args.a.now) (assertion_of c.args.b.now) c.in_ok-left.field-0 c.in_ok-right.field-0 c.in-Some.left c.in-Some-2.right c.in_ok-left.ensures c.in-Some.is c.in_ok-right.ensures c.in-Some-2.is z c.in_ok-left-2.left l c.in_ok-r.field-0 c.in_ok-r.ensures in
    sym (ap settlement_of (k ∙ c.in_default-3.is))

pub settlement-requires-clause-left : goal.settlement-requires-clause-left
settlement-requires-clause-left c =
    let z : are_zero c.in-Some.left ≡ true = rw (c.are_zero.ensures, c.as_slice.ensures) at c.if-not-are_zero.false in
    let l : c.in_ok-left-2.left ≡ forms c.in-Some.left = rw c.as_slice-2.ensures at c.in_ok-left-2.ensures in
    let k = found-reduction (assertion_of c.args.a.now) (assertion_of c.args.b.now) c.in_ok-left.field-0 c.in_ok-right.field-0 c.in-Some.left c.in-Some-2.right c.in_ok-left.ensures c.in-Some.is c.in_ok-right.ensures c.in-Some-2.is z c.in_ok-left-2.left l c.in_ok-r.field-0 c.in_ok-r.ensures in
    (reduced-small (assertion_of c.args.a.now) (assertion_of c.args.b.now) ((order_is c.args.a.now).0 c.requires.left_ordered) ((order_is c.args.b.now).0 c.requires.right_ordered) c.in-Some-3.r (k ∙ c.in-Some-3.is)).0

pub settlement-requires-clause-right : goal.settlement-requires-clause-right
settlement-requires-clause-right c =
    let z : are_zero c.in-Some.left ≡ true = rw (c.are_zero.ensures, c.as_slice.ensures) at c.if-not-are_zero.false in
    let l : c.in_ok-left-2.left ≡ forms c.in-Some.left = rw c.as_slice-2.ensures at c.in_ok-left-2.ensures in
    let k = found-reduction (assertion_of c.args.a.now) (assertion_of c.args.b.now) c.in_ok-left.field-0 c.in_ok-right.field-0 c.in-Some.left c.in-Some-2.right c.in_ok-left.ensures c.in-Some.is c.in_ok-right.ensures c.in-Some-2.is z c.in_ok-left-2.left l c.in_ok-r.field-0 c.in_ok-r.ensures in
    (reduced-small (assertion_of c.args.a.now) (assertion_of c.args.b.now) ((order_is c.args.a.now).0 c.requires.left_ordered) ((order_is c.args.b.now).0 c.requires.right_ordered) c.in-Some-3.r (k ∙ c.in-Some-3.is)).1

pub returns : goal.returns
returns c =
    let z : are_zero c.in-Some.left ≡ true = rw (c.are_zero.ensures, c.as_slice.ensures) at c.if-not-are_zero.false in
    let l : c.in_ok-left-2.left ≡ forms c.in-Some.left = rw c.as_slice-2.ensures at c.in_ok-left-2.ensures in
    let k = found-reduction (assertion_of c.args.a.now) (assertion_of c.args.b.now) c.in_ok-left.field-0 c.in_ok-right.field-0 c.in-Some.left c.in-Some-2.right c.in_ok-left.ensures c.in-Some.is c.in_ok-right.ensures c.in-Some-2.is z c.in_ok-left-2.left l c.in_ok-r.field-0 c.in_ok-r.ensures in
    ap (λ x. Some x) c.in_ok-settlement.ensures ∙ sym (ap settlement_of (k ∙ c.in-Some-3.is))
