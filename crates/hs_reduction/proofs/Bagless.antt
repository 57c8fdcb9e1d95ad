-- The plain reduction of a question.
use Rattle.std.proofs.Common.{suc, arith}
use Rattle.hs_pure.specs.Mirror.{assertion_top}
use Rattle.hs_reduction.specs.Instance.{replaced}
use Rattle.hs_reduction.specs.Laws.{BaglessIsExact, BaglessHasNoBags, BaglessIsOrdered}
use Rattle.hs_reduction.proofs.Plain.{reduction_has_no_bags}
use Rattle.hs_reduction.proofs.Order.{reduction_is_ordered}
use Rattle.hs_reduction.proofs.Satisfied.{reduction_is_exact}

pub bagless_is_exact : BaglessIsExact
bagless_is_exact p plain order = reduction_is_exact replaced (suc (assertion_top p)) p (omega arith) plain order

pub bagless_has_no_bags : BaglessHasNoBags
bagless_has_no_bags p plain = reduction_has_no_bags replaced (suc (assertion_top p)) p plain

pub bagless_is_ordered : BaglessIsOrdered
bagless_is_ordered p order = reduction_is_ordered replaced (suc (assertion_top p)) p order
