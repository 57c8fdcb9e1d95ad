use Rattle.std.proofs.Common.{◌≡◌, take}
use Rattle.std.specs.Option.{option_copied}
use Rattle.hs_numbering.specs.Least.{least}
use Rattle.hs_numbering.proofs.first.least.Given as goal

abbrev pub invariant-loop-fault : goal.invariant-loop-fault
invariant-loop-fault l = option_copied l.found ≡ least (take l.fault-index l.faults)
