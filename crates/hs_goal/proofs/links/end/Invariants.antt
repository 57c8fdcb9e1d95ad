use Rattle.std.proofs.Common.{◌≡◌, nat_eq}
use Rattle.indexmap.specs.IndexMap.{get}
use Rattle.hs_goal.specs.Links.{end_of}
use Rattle.hs_goal.proofs.links.end.Given as goal

abbrev pub invariant-loop-next : goal.invariant-loop-next
invariant-loop-next l = end_of (get nat_eq l.links) l.at ≡ end_of (get nat_eq l.links) l.key

abbrev pub decreases-loop-next : goal.decreases-loop-next
decreases-loop-next l = l.at
