use Rattle.std.proofs.Common.{◌≡◌, ◌+◌, ◌^◌, ◌≤◌, min, drop}
use Rattle.hs_pure.specs.Sums.{weight}
use Rattle.hs_unit.proofs.small.weight.Given as goal

abbrev pub invariant-loop-t : goal.invariant-loop-t
invariant-loop-t l = record {
  value : min (l.sum + weight (drop l.t-index l.ts)) (2 ^ 60 + 1) ≡ min (weight l.ts) (2 ^ 60 + 1);
  bound : l.sum ≤ 2 ^ 60 + 1;
}
