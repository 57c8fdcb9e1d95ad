use Rattle.std.proofs.Common.{nat_eq}
use Rattle.indexmap.specs.IndexMap.{get}
use Rattle.hs_goal.specs.Links.{Shortens}
use Rattle.hs_goal.proofs.table.shorten_all.Given as goal

abbrev pub invariant-loop-conjunct : goal.invariant-loop-conjunct
invariant-loop-conjunct l = Shortens (get nat_eq l.fn.links) (get nat_eq l.links)
