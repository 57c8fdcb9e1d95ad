use Rattle.std.proofs.Common.{◌≡◌, ◌≤◌, ◌-◌}
use Rattle.hs_pred_lines.specs.Values.{is_asked, passing_to}
use Rattle.hs_pred_lines.proofs.values.asked_below.Given as goal

abbrev pub invariant-loop-number : goal.invariant-loop-number
invariant-loop-number l = (1 ≤ l.number) × (l.number - 1 ≤ l.next - 1) × (l.vars.items ≡ passing_to (is_asked l.left l.right) (l.number - 1))
