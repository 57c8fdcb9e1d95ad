use Rattle.std.proofs.Common.{rules}
use Rattle.hs_pure.specs.declared.bag.Bag.{the_lemmas}
use Rattle.hs_pure.specs.Rename.{renaming}
use Rattle.hs_pure.proofs.Ranges.{union_left, union_right, inter_left, inter_right, diff_left, diff_right}
use Rattle.hs_pure.proofs.bag.+rename.Goals as goal

pub Bag::rename-rename_boxed-requires : goal.Bag::rename-rename_boxed-requires
Bag::rename-rename_boxed-requires t c = (
  search (rules, the_lemmas),
  union_left (renaming c.args.map.now) c.args.self.now c.in-Union.a c.in-Union.b c.get.result.now c.get.ensures c.in-Union.is c.requires,
)

pub Bag::rename-rename_boxed-requires-in-Union : goal.Bag::rename-rename_boxed-requires-in-Union
Bag::rename-rename_boxed-requires-in-Union t c = (
  search (rules, the_lemmas),
  union_right (renaming c.args.map.now) c.args.self.now c.in-Union.a c.in-Union.b c.get-in-Union.result.now c.get-in-Union.ensures c.in-Union.is c.requires,
)

pub Bag::rename-rename_boxed-requires-in-Inter : goal.Bag::rename-rename_boxed-requires-in-Inter
Bag::rename-rename_boxed-requires-in-Inter t c = (
  search (rules, the_lemmas),
  inter_left (renaming c.args.map.now) c.args.self.now c.in-Inter.a c.in-Inter.b c.get-in-Inter.result.now c.get-in-Inter.ensures c.in-Inter.is c.requires,
)

pub Bag::rename-rename_boxed-requires-in-Inter-2 : goal.Bag::rename-rename_boxed-requires-in-Inter-2
Bag::rename-rename_boxed-requires-in-Inter-2 t c = (
  search (rules, the_lemmas),
  inter_right (renaming c.args.map.now) c.args.self.now c.in-Inter.a c.in-Inter.b c.get-in-Inter-2.result.now c.get-in-Inter-2.ensures c.in-Inter.is c.requires,
)

pub Bag::rename-rename_boxed-requires-in-Diff : goal.Bag::rename-rename_boxed-requires-in-Diff
Bag::rename-rename_boxed-requires-in-Diff t c = (
  search (rules, the_lemmas),
  diff_left (renaming c.args.map.now) c.args.self.now c.in-Diff.a c.in-Diff.b c.get-in-Diff.result.now c.get-in-Diff.ensures c.in-Diff.is c.requires,
)

pub Bag::rename-rename_boxed-requires-in-Diff-2 : goal.Bag::rename-rename_boxed-requires-in-Diff-2
Bag::rename-rename_boxed-requires-in-Diff-2 t c = (
  search (rules, the_lemmas),
  diff_right (renaming c.args.map.now) c.args.self.now c.in-Diff.a c.in-Diff.b c.get-in-Diff-2.result.now c.get-in-Diff-2.ensures c.in-Diff.is c.requires,
)
