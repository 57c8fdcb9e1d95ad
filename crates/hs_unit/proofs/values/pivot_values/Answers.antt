use Rattle.std.proofs.Common.{arith, inl, inr}
use Rattle.hs_unit.proofs.Bounds.{small-next}
use Rattle.hs_unit.proofs.Listing.{value-next, values-end}
use Rattle.hs_unit.proofs.values.pivot_values.Goals.{then-solved-test+else-i-forms, else-solved-test}
use Rattle.hs_unit.proofs.values.pivot_values.Goals as goal

pub solved-preserved : goal.solved-preserved
solved-preserved c = record {
  in_pivots = omega (arith, c.solved-test.true);
  in_forms = omega (arith, c.if-i-forms.true);
  small = small-next c.args.forms.now c.solved.i c.if-i-forms.true c.solved.invariant.small;
  same = value-next c.args.e c.args.pivots.now c.args.forms.now c.solved.all c.push_value.new.all _ c.solved.i _ _ _ c.solved-test.true c.if-i-forms.true c.index-forms-i.is c.in_ok-push_value.ensures c.solved.invariant.same;
}

pub returns : goal.returns
returns c = elim c.solved-test.branch [
  | then-solved-test+else-i-forms w ↦ values-end c.args.e c.args.pivots.now c.args.forms.now c.solved.all _ c.solved.i (inr (omega (arith, w.if-i-forms.false))) c.solved.invariant.same
  | else-solved-test w ↦ values-end c.args.e c.args.pivots.now c.args.forms.now c.solved.all _ c.solved.i (inl (omega (arith, w.solved-test.false))) c.solved.invariant.same
]
