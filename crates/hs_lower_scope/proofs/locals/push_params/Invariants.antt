use Rattle.std.proofs.Common.{◌≡◌, take, map, ◌++◌}
use Rattle.hs_lower_scope.specs.Scope.{param_variable}
use Rattle.hs_lower_scope.proofs.locals.push_params.Given as goal

abbrev pub invariant-loop-p : goal.invariant-loop-p
invariant-loop-p l = l.variables ≡ l.fn.variables ++ map param_variable (take l.p-index l.params)
