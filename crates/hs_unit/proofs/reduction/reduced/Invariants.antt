use Rattle.std.proofs.Common.{◌≡◌, length, true}
use Rattle.hs_unit.specs.Reduction.{all_small, steps, start}
use Rattle.hs_unit.proofs.reduction.reduced.Given as goal

abbrev pub invariant-reducing : goal.invariant-reducing
invariant-reducing l = record {
  same : steps (length l.r.later) l.r l.r.later ≡ steps (length l.fn.left) (start l.fn.left l.fn.right) l.fn.left;
  small : all_small l.r.later ≡ true;
}

abbrev pub decreases-reducing : goal.decreases-reducing
decreases-reducing l = length l.r.later
