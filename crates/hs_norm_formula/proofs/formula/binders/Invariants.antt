use Rattle.std.proofs.Common.{◌≡◌, take}
use Rattle.hs_numbering.specs.Numbering.{each, bind}
use Rattle.hs_norm_formula.proofs.formula.binders.Given as goal

abbrev pub invariant-loop-name : goal.invariant-loop-name
invariant-loop-name l = (l.vars, l.n) ≡ each bind (take l.name-index l.names) l.fn.n
