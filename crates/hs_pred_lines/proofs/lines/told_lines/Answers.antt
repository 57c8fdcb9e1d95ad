use Rattle.std.proofs.Common.{◌≡◌, ◌<◌, List, length, get_or, subst}
use Rattle.hs_heap.specs.declared.definitions.PredDef.{PredDef}
use Rattle.hs_pred_lines.specs.Lines.{IsPredicateLine}
use Rattle.hs_pred_lines.proofs.Told.{telling_push}
use Rattle.hs_pred_lines.proofs.lines.told_lines.Goals as goal

pub loop-pred-preserved : goal.loop-pred-preserved
loop-pred-preserved c =
    let here = c.as_slice-pred-items.ensures in
    let pred = c.pred-item.result in
    let below = subst (λ (ps : List PredDef). c.loop-pred.pred-index < length ps) here c.loop-pred-test.true in
    let at = subst (λ (ps : List PredDef). pred ≡ get_or ps c.loop-pred.pred-index pred) here c.pred-item.is in
    telling_push (IsPredicateLine c.args.resolved.now c.args.atoms) c.args.resolved.now.defs.preds c.loop-pred.lines.items c.push.new.self.items c.loop-pred.pred-index c.loop-pred.number
    pred c.in_ok-predicate_line.field-0 c.loop-pred.invariant below at c.in_ok-predicate_line.ensures c.in_ok-push.ensures.items
