use Rattle.std.proofs.Common.{rules}
use Rattle.hs_cooper_forms.proofs.Merging.{wide_scaled, scale_more}
use Rattle.hs_bag_parts.proofs.sums.scale_terms.Goals as goal

pub returns-in_default-clause-wide : goal.returns-in_default-clause-wide
returns-in_default-clause-wide c = λ _. wide_scaled c.args.k _ _ _ c.loop-v-test.true (search rules) (search rules) c.in_default.ensures

pub loop-v-preserved : goal.loop-v-preserved
loop-v-preserved c = scale_more _ _ _ _ _ _ _ c.loop-v-test.true (search rules) c.in-Some.ensures.0 c.in-Some.ensures.1 c.loop-v.invariant c.in_ok-push.ensures.ok
