use Rattle.std.proofs.Common.{◌≡◌, take}
use Rattle.hs_numbering.specs.Numbering.{each_counted}
use Rattle.hs_norm_item.specs.Definitions.{param}
use Rattle.hs_norm_item.proofs.definitions.param_vars.Given as goal

abbrev pub invariant-loop-x : goal.invariant-loop-x
invariant-loop-x l = (l.vars, l.n) ≡ each_counted param (take l.x-index l.xs) l.fn.n
