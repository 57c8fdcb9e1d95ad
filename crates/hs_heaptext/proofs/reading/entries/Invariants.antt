use Rattle.std.proofs.Common.{length}
use Rattle.hs_heaptext.proofs.Entries.{HaveEntries}
use Rattle.hs_heaptext.proofs.reading.entries.Given as goal

abbrev pub invariant-loop-rest : goal.invariant-loop-rest
invariant-loop-rest l = HaveEntries l.defs l.text l.heap l.low l.number l.rest

abbrev pub decreases-loop-rest : goal.decreases-loop-rest
decreases-loop-rest l = length l.rest
