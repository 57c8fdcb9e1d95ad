use Rattle.std.proofs.Common.{◌≡◌, take}
use Rattle.hs_unit.specs.Sides.{forms}
use Rattle.hs_unit.proofs.sides.forms.Given as goal

abbrev pub invariant-loop-c : goal.invariant-loop-c
invariant-loop-c l = l.all ≡ forms (take l.c-index l.cs)
