use Rattle.std.proofs.Common.{◌≡◌, take}
use Rattle.hs_lower_scope.specs.View.{shown}
use Rattle.hs_lower_faults.specs.First.{all}
use Rattle.hs_lower_faults.specs.Setting.{expression}
use Rattle.hs_lower_faults.specs.View.{set_of}
use Rattle.hs_lower_faults.proofs.reads.expressions.Given as goal

abbrev pub invariant-loop-e : goal.invariant-loop-e
invariant-loop-e l = l.found ≡ all (expression (shown l.scope) (set_of l.set)) (take l.e-index l.es) l.fn.found
