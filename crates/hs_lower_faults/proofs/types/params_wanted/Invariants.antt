use Rattle.std.proofs.Common.{◌≡◌, drop}
use Rattle.hs_lower_scope.specs.View.{shown}
use Rattle.hs_lower_faults.specs.Types.{params_wanted}
use Rattle.hs_lower_faults.proofs.types.params_wanted.Given as goal

abbrev pub invariant-loop-i : goal.invariant-loop-i
invariant-loop-i l = params_wanted (shown l.scope) l.params l.es l.fn.found ≡ params_wanted (shown l.scope) (drop l.i l.params) (drop l.i l.es) l.found
