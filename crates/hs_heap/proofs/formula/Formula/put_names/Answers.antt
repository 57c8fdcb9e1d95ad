use Rattle.std.proofs.Common.{All, sym, subst}
use Rattle.hs_pure.specs.Rename.{renaming}
use Rattle.hs_heap.specs.Renamed.{DisjunctInRange}
use Rattle.hs_heap.proofs.formula.Formula.put_names.Goals as goal

pub put_in_cases-requires : goal.put_in_cases-requires
put_in_cases-requires c = subst (All (DisjunctInRange (renaming c.args.map.now))) (sym c.as_slice.ensures) c.requires
