use Rattle.std.proofs.Common.{◌≡◌, take}
use Rattle.hs_tree.proofs.expr.+copy.Given as goal

abbrev pub invariant-copy_exprs-loop-expr : goal.invariant-copy_exprs-loop-expr
invariant-copy_exprs-loop-expr l = l.all ≡ take l.expr-index l.exprs
