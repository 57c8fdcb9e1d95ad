-- A question with its plain reduction.
use Rattle.std.specs.Prelude.{◌≡◌, suc, IsTrue}
use Rattle.hs_pure.specs.declared.pure.Pure.{Pure}
use Rattle.hs_pure.specs.Assertion.{assertion_of}
use Rattle.hs_pure.specs.Mirror.{assertion_top}
use Rattle.hs_pure.specs.Occurs.{is_bags_plain}
use Rattle.hs_pure.specs.Sums.{IsOrdered}
use Rattle.hs_reduction.specs.Layout.{layout}
use Rattle.hs_reduction.specs.Reduction.{bagless}
use Rattle.hs_counts.specs.Counts.{counts_of}
use Rattle.hs_counts.specs.declared.count.Reduced.{Reduced}

-- r is the plain reduction of q, with the counts of the bag variables of q
pub record IsReducedQuestion (q : Pure) (r : Reduced) : Type 0 where
  pub plain : IsTrue (is_bags_plain q)
  pub ordered : IsOrdered q
  pub pure : assertion_of r.pure ≡ bagless (assertion_of q)
  pub counts : r.counts ≡ counts_of (layout (suc (assertion_top (assertion_of q))) (assertion_of q))
