use Rattle.std.proofs.Common.{◌≡◌, drop, true}
use Rattle.hs_unit.specs.Sides.{forms}
use Rattle.hs_unit.specs.Reduction.{all_small}
use Rattle.hs_unit.specs.Settling.{denied}
use Rattle.hs_unit.proofs.values.denied.Given as goal

abbrev pub invariant-loop-c : goal.invariant-loop-c
invariant-loop-c l = record {
  same : denied (drop l.c-index l.right) ≡ denied l.right;
  small : all_small (forms (drop l.c-index l.right)) ≡ true;
}
