use Rattle.std.proofs.Common.{◌≡◌, drop}
use Rattle.hs_tool.specs.Status.{all_good}
use Rattle.hs_tool.proofs.statuses.all_good.Given as goal

abbrev pub invariant-loop-line : goal.invariant-loop-line
invariant-loop-line l = all_good (drop l.line-index l.report) ≡ all_good l.report
