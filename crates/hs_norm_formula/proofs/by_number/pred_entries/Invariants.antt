use Rattle.std.proofs.Common.{◌≡◌, take, length}
use Rattle.hs_norm_formula.specs.Numbered.{counted, pred_entry}
use Rattle.hs_norm_formula.proofs.by_number.pred_entries.Given as goal

abbrev pub invariant-loop-i : goal.invariant-loop-i
invariant-loop-i l = record {
  built : l.all ≡ counted pred_entry (take l.i l.preds);
  count : length l.all ≡ l.i;
}
