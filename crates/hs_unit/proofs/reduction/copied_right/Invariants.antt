use Rattle.std.proofs.Common.{◌≡◌, take}
use Rattle.hs_unit.proofs.reduction.copied_right.Given as goal

abbrev pub invariant-loop-c : goal.invariant-loop-c
invariant-loop-c l = l.all ≡ take l.c-index l.right
