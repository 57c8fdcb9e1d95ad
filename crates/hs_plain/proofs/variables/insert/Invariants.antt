use Rattle.std.proofs.Common.{◌-◌, ◌≤◌, length, vec_len}
use Rattle.hs_plain.proofs.Inserting.{Passed}
use Rattle.hs_plain.proofs.variables.insert.Given as goal

abbrev pub invariant-loop-i : goal.invariant-loop-i
invariant-loop-i l = record {
  within : l.i ≤ length l.variables.items;
  passed : Passed l.v l.variables.items l.i;
}

abbrev pub decreases-loop-i : goal.decreases-loop-i
decreases-loop-i l = vec_len l.variables - l.i
