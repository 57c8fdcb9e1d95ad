use Rattle.std.proofs.Common.{◌≡◌, drop}
use Rattle.hs_lower_scope.specs.View.{shown}
use Rattle.hs_lower_faults.specs.Types.{fields_wanted}
use Rattle.hs_lower_faults.proofs.types.fields_wanted.Given as goal

abbrev pub invariant-loop-i : goal.invariant-loop-i
invariant-loop-i l = fields_wanted (shown l.scope) l.fields l.es l.fn.found ≡ fields_wanted (shown l.scope) (drop l.i l.fields) (drop l.i l.es) l.found
