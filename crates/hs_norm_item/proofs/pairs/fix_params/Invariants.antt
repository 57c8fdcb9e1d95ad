use Rattle.std.proofs.Common.{◌≡◌, take}
use Rattle.hs_numbering.specs.Numbering.{each, fix}
use Rattle.hs_norm_item.proofs.pairs.fix_params.Given as goal

abbrev pub invariant-loop-param : goal.invariant-loop-param
invariant-loop-param l = l.n ≡ (each (λ p. fix p.name) (take l.param-index l.params) l.fn.n).1
