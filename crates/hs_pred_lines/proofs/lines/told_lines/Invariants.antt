use Rattle.hs_pred_lines.specs.Lines.{IsPredicateLine}
use Rattle.hs_pred_lines.proofs.Told.{Telling}
use Rattle.hs_pred_lines.proofs.lines.told_lines.Given as goal

abbrev pub invariant-loop-pred : goal.invariant-loop-pred
invariant-loop-pred l = Telling (IsPredicateLine l.resolved l.atoms) l.resolved.defs.preds l.lines.items l.pred-index l.number
