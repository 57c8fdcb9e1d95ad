use Rattle.std.proofs.Common.{◌≡◌, take, map}
use Rattle.hs_norm_formula.specs.Expr.{readings}
use Rattle.hs_numbering.specs.Numbering.{each}
use Rattle.hs_norm_formula.proofs.expr.numbers.Given as goal

abbrev pub invariant-loop-element : goal.invariant-loop-element
invariant-loop-element l = (l.ones.items, l.n) ≡ each (λ e. e) (map (λ e. e.number) (map readings (take l.element-index l.elements))) l.fn.n
