use Rattle.std.proofs.Common.{◌≡◌, take, map}
use Rattle.hs_norm_formula.proofs.by_number.param_kinds.Given as goal

abbrev pub invariant-loop-param : goal.invariant-loop-param
invariant-loop-param l = l.kinds ≡ map (λ v. v.bag) (take l.param-index l.params)
