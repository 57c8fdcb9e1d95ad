use Rattle.std.proofs.Common.{◌≡◌, drop}
use Rattle.hs_pred_lines.specs.Lines.{first_unshown}
use Rattle.hs_pred_lines.proofs.lines.first_of.Given as goal

abbrev pub invariant-loop-line : goal.invariant-loop-line
invariant-loop-line l = first_unshown (drop l.line-index l.lines) ≡ first_unshown l.lines
