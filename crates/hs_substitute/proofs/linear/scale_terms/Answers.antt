use Rattle.std.proofs.Common.{rules}
use Rattle.hs_substitute.proofs.Merging.{wide_term, scale_next}
use Rattle.hs_substitute.proofs.linear.scale_terms.Goals as goal

pub returns-in_default-clause-wide : goal.returns-in_default-clause-wide
returns-in_default-clause-wide c = λ _. wide_term c.args.by.now.number _ _ _ c.loop-v-test.true (search rules) c.in_default.ensures

pub loop-v-preserved : goal.loop-v-preserved
loop-v-preserved c = scale_next _ _ _ _ _ _ _ c.loop-v-test.true (search rules) c.in-Some.ensures.0 c.in-Some.ensures.1 c.loop-v.invariant c.in_ok-push.ensures.ok
