use Rattle.std.proofs.Common.{◌≡◌, take}
use Rattle.hs_lower_scope.specs.View.{shown}
use Rattle.hs_lower_faults.specs.First.{all}
use Rattle.hs_lower_faults.specs.Types.{part}
use Rattle.hs_lower_faults.proofs.exprs.each_fits.Given as goal

abbrev pub invariant-loop-part : goal.invariant-loop-part
invariant-loop-part l = l.found ≡ all (part (shown l.scope)) (take l.part-index l.parts) l.fn.found
