use Rattle.std.proofs.Common.{◌≡◌, take}
use Rattle.hs_lower_scope.specs.View.{shown}
use Rattle.hs_lower_faults.specs.First.{all}
use Rattle.hs_lower_faults.specs.Setting.{part}
use Rattle.hs_lower_faults.specs.View.{set_of}
use Rattle.hs_lower_faults.proofs.reads.each_part.Given as goal

abbrev pub invariant-loop-one : goal.invariant-loop-one
invariant-loop-one l = l.found ≡ all (part (shown l.scope) (set_of l.set)) (take l.one-index l.parts) l.fn.found
