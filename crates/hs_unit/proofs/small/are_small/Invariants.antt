use Rattle.std.proofs.Common.{◌≡◌, drop}
use Rattle.hs_unit.specs.Sides.{forms}
use Rattle.hs_unit.specs.Reduction.{all_small}
use Rattle.hs_unit.proofs.small.are_small.Given as goal

abbrev pub invariant-loop-c : goal.invariant-loop-c
invariant-loop-c l = all_small (forms (drop l.c-index l.right)) ≡ all_small (forms l.right)
