use Rattle.std.proofs.Common.{◌≡◌, take}
use Rattle.hs_numbering.specs.Numbering.{each_counted}
use Rattle.hs_norm_formula.specs.Formula.{counted_case}
use Rattle.hs_norm_formula.proofs.formula.normal_formula.Given as goal

abbrev pub invariant-loop-case : goal.invariant-loop-case
invariant-loop-case l = (l.cases, l.n) ≡ each_counted (counted_case l.entries) (take l.case-index l.tree.cases) l.fn.n
