use Rattle.std.proofs.Common.{◌≡◌, arith}
use Rattle.hs_elimination.specs.Lcm.{lcm}
use Rattle.hs_elimination.proofs.Lcms.{lcm_positive}
use Rattle.hs_cooper.proofs.period.lcm_within.Goals as goal

pub returns-in-Some-clause-value : goal.returns-in-Some-clause-value
returns-in-Some-clause-value c =
    let e : c.in-Some.n ≡ lcm c.args.m c.args.d = rw c.from.ensures at c.in-Some.ensures.1 in
    let up = lcm_positive c.args.m c.args.d c.requires.positive (omega arith) in
    record { value = e; positive = omega (arith, e, up); within = omega arith }

pub returns-in-Some-clause-over : goal.returns-in-Some-clause-over
returns-in-Some-clause-over c = λ e p. absurd (cc e)

pub returns-then-d-eq0-clause-over : goal.returns-then-d-eq0-clause-over
returns-then-d-eq0-clause-over c = λ e p. absurd (omega (arith, c.if-d-eq0.true, p))
