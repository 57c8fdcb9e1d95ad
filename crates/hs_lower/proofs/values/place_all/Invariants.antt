use Rattle.std.proofs.Common.{◌≡◌, take}
use Rattle.hs_lower_scope.specs.View.{shown}
use Rattle.hs_lower.specs.Code.{all_placed}
use Rattle.hs_lower.proofs.values.place_all.Given as goal

abbrev pub invariant-loop-e : goal.invariant-loop-e
invariant-loop-e l = l.all ≡ all_placed (shown l.scope) (take l.e-index l.es) l.fn.n
