use Rattle.std.proofs.Common.{◌≡◌, take}
use Rattle.std.specs.List.{zip}
use Rattle.hs_norm_formula.specs.Formula.{argument}
use Rattle.hs_numbering.specs.Numbering.{each}
use Rattle.hs_norm_formula.proofs.formula.arguments.Given as goal

abbrev pub invariant-loop-i : goal.invariant-loop-i
invariant-loop-i l = (l.vars, l.n) ≡ each (λ p. argument p.0 p.1) (take l.i (zip l.kinds l.trees)) l.fn.n
