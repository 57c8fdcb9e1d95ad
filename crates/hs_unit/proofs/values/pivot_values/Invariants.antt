use Rattle.std.proofs.Common.{◌≡◌, ◌≤◌, ◌++◌, ◌-◌, drop, length, true}
use Rattle.hs_unit.specs.Reduction.{all_small}
use Rattle.hs_unit.specs.Settling.{pivot_values}
use Rattle.hs_unit.proofs.values.pivot_values.Given as goal

abbrev pub invariant-solved : goal.invariant-solved
invariant-solved l = record {
  in_pivots : l.i ≤ length l.pivots;
  in_forms : l.i ≤ length l.forms;
  small : all_small (drop l.i l.forms) ≡ true;
  same : l.all ++ pivot_values l.e (drop l.i l.pivots) (drop l.i l.forms) ≡ pivot_values l.e l.pivots l.forms;
}

abbrev pub decreases-solved : goal.decreases-solved
decreases-solved l = length l.pivots - l.i
