use Rattle.std.proofs.Common.{◌≡◌, take, map}
use Rattle.hs_tree.specs.declared.item.PureTree.{out-PureTree}
use Rattle.hs_norm_formula.specs.Item.{item, all_of, cases}
use Rattle.hs_norm_formula.proofs.item.+item.Given as goal

abbrev pub invariant-items-loop-tree : goal.invariant-items-loop-tree
invariant-items-loop-tree l = (l.parts, l.n) ≡ all_of l.inside (map item (take l.tree-index l.trees)) l.fn.n

abbrev pub invariant-disjunction-loop-case : goal.invariant-disjunction-loop-case
invariant-disjunction-loop-case l = (l.cases, l.n) ≡ cases l.inside (map (map item) (take l.case-index (out-PureTree l.tree).cases)) l.fn.n
