use Rattle.std.proofs.Common.{nat_eq, take}
use Rattle.indexmap.specs.IndexMap.{get}
use Rattle.hs_goal.specs.Links.{HasEnds}
use Rattle.hs_goal.proofs.links.ends.Given as goal

abbrev pub invariant-loop-key : goal.invariant-loop-key
invariant-loop-key l = HasEnds (take l.key-index l.keys) (get nat_eq l.links) (get nat_eq l.table)
