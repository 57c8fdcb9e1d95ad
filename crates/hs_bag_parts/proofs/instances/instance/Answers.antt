use Rattle.std.proofs.Common.{rules}
use Rattle.hs_pure.specs.Assertion.{assertion_of}
use Rattle.hs_bag_parts.proofs.Substitutions.{wide-Replaced, wide-Stated, instance-Stated}
use Rattle.hs_bag_parts.proofs.instances.instance.Goals as goal

pub returns-in-Replaced-clause-wide : goal.returns-in-Replaced-clause-wide
returns-in-Replaced-clause-wide c = λ h. wide-Replaced c.args.way c.args.u c.args.n (assertion_of c.args.p.now) c.args.a c.in-Replaced.is (c.substituted.ensures.wide h)

pub returns-in_err-inner-in-Stated-clause-wide : goal.returns-in_err-inner-in-Stated-clause-wide
returns-in_err-inner-in-Stated-clause-wide c = λ h.
    wide-Stated c.args.way c.args.u c.args.n (assertion_of c.args.p.now) c.args.a.now _ _ c.in-Stated.is c.in_ok-own-in-Stated.ensures c.in_ok-next-in-Stated.ensures.next (c.in_err-inner-in-Stated.ensures.wide (search rules))

pub returns-in_ok-exists-in-Stated-clause-exact : goal.returns-in_ok-exists-in-Stated-clause-exact
returns-in_ok-exists-in-Stated-clause-exact c =
    instance-Stated c.args.way c.args.u c.args.n (assertion_of c.args.p.now) c.args.a.now _ _ c.in-Stated.is c.in_ok-own-in-Stated.ensures c.in_ok-next-in-Stated.ensures.next
    _ _ _ _ c.in_ok-inner-in-Stated.ensures.exact c.in_ok-is-in-Stated.ensures c.in_ok-parts-in-Stated.ensures c.in_ok-exists-in-Stated.ensures
