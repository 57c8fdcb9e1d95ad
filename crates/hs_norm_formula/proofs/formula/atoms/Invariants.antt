use Rattle.std.proofs.Common.{◌≡◌, take}
use Rattle.hs_numbering.specs.Numbering.{each_counted}
use Rattle.hs_norm_formula.specs.Formula.{counted_atom}
use Rattle.hs_norm_formula.proofs.formula.atoms.Given as goal

abbrev pub invariant-loop-tree : goal.invariant-loop-tree
invariant-loop-tree l = (l.atoms, l.n) ≡ each_counted (counted_atom l.entries) (take l.tree-index l.trees) l.fn.n
