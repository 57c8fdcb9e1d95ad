use Rattle.std.proofs.Common.{◌≡◌, ◌+◌, ◌-◌, ◌≤◌, drop, length}
use Rattle.hs_norm_formula.specs.Sum.{place}
use Rattle.hs_lower_scope.proofs.sum.place.Given as goal

abbrev pub invariant-loop-i : goal.invariant-loop-i
invariant-loop-i l = record {
  within : l.i ≤ length l.terms;
  passed : place l.v l.terms ≡ l.i + place l.v (drop l.i l.terms);
}

abbrev pub decreases-loop-i : goal.decreases-loop-i
decreases-loop-i l = length l.terms - l.i
