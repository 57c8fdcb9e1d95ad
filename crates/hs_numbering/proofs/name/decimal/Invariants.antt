use Rattle.std.proofs.Common.{◌≡◌, take}
use Rattle.hs_numbering.specs.Names.{decimal}
use Rattle.hs_numbering.proofs.name.decimal.Given as goal

abbrev pub invariant-loop-b : goal.invariant-loop-b
invariant-loop-b l = l.found ≡ decimal (take l.b-index l.digits)
