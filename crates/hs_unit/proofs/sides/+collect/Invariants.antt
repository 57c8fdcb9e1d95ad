use Rattle.std.proofs.Common.{◌≡◌, map, drop, Some}
use Rattle.hs_pure.specs.Assertion.{assertion_of}
use Rattle.hs_unit.specs.Sides.{joined, all_comparisons}
use Rattle.hs_unit.proofs.sides.+collect.Given as goal

abbrev pub invariant-collect_all-loop-p : goal.invariant-collect_all-loop-p
invariant-collect_all-loop-p l = joined (Some l.all) (all_comparisons (map assertion_of (drop l.p-index l.ps))) ≡ joined (Some l.fn.all) (all_comparisons (map assertion_of l.ps))
