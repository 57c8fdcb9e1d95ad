use Rattle.std.proofs.Common.{◌≡◌, ◌≤◌, length, true}
use Rattle.hs_unit.specs.Reduction.{all_small, steps}
use Rattle.hs_unit.proofs.reduction.without_constants.Given as goal

abbrev pub invariant-passing : goal.invariant-passing
invariant-passing l = record {
  same : steps (length l.rest) (record { pivots = l.pivots; taken = l.taken; later = l.rest; right = l.r.right }) l.rest ≡ steps (length l.r.later) l.r l.r.later;
  small : all_small l.rest ≡ true;
  fewer : length l.rest ≤ length l.r.later;
}

abbrev pub decreases-passing : goal.decreases-passing
decreases-passing l = length l.rest
