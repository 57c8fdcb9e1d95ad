use Rattle.hs_implication.proofs.Solutions.{implications_are_told}
use Rattle.hs_implication.proofs.laws.implications_are_told.Goals as goal

pub returns : goal.returns
returns c =
    implications_are_told
    (record {
      exact = c.bagless_is_exact.ensures;
      bags = c.bagless_has_no_bags.ensures;
      ordered = c.bagless_is_ordered.ensures;
      plain = c.bags_plain_is_of_assertion.ensures;
      decided = c.plain_truth_is_decided.ensures;
    })
