use Rattle.std.proofs.Common.{nat_eq, take}
use Rattle.indexmap.specs.IndexMap.{get}
use Rattle.hs_goal.specs.Keys.{HaveClasses}
use Rattle.hs_goal.proofs.table.joined.Given as goal

abbrev pub invariant-loop-conjunct : goal.invariant-loop-conjunct
invariant-loop-conjunct l = HaveClasses (take l.conjunct-index l.conjuncts) (get nat_eq l.links)
