use Rattle.std.proofs.Common.{◌≡◌, ◌≤◌, ◌-◌, length, drop}
use Rattle.hs_elimination.specs.Linear.{same_terms}
use Rattle.hs_cooper_forms.proofs.linear.same_terms.Given as goal

abbrev pub invariant-comparing : goal.invariant-comparing
invariant-comparing l = record {
  in_range : l.i ≤ length l.a;
  same : same_terms (drop l.i l.a) (drop l.i l.b) ≡ same_terms l.a l.b;
}

abbrev pub decreases-comparing : goal.decreases-comparing
decreases-comparing l = length l.a - l.i
