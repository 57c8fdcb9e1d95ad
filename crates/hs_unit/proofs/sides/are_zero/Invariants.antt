use Rattle.std.proofs.Common.{◌≡◌, drop}
use Rattle.hs_unit.specs.Sides.{are_zero}
use Rattle.hs_unit.proofs.sides.are_zero.Given as goal

abbrev pub invariant-loop-c : goal.invariant-loop-c
invariant-loop-c l = are_zero (drop l.c-index l.cs) ≡ are_zero l.cs
