use Rattle.std.proofs.Common.{sym, subst}
use Rattle.hs_pure.specs.Rename.{renaming}
use Rattle.hs_heap.specs.Renamed.{DisjunctInRange}
use Rattle.hs_heap.proofs.rename.put_in_cases.Goals as goal

pub put_names-requires : goal.put_names-requires
put_names-requires c = subst (DisjunctInRange (renaming c.args.pairs.now)) (sym c.case-item.is) (c.requires c.loop-case.case-index c.case-item.result c.loop-case-test.true)
