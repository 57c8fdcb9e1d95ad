use Rattle.std.proofs.Common.{◌≡◌, take}
use Rattle.hs_unit.proofs.reduction.copies.Given as goal

abbrev pub invariant-loop-a : goal.invariant-loop-a
invariant-loop-a l = l.all ≡ take l.a-index l.forms
