use Rattle.std.proofs.Common.{subst, refl, IfSome, ◌<◌}
use Rattle.hs_elimination.specs.Linear.{place}
use Rattle.hs_cooper.specs.Surveying.{IsPeriod}
use Rattle.hs_cooper.proofs.Surveys.{period-Joined, positive-Joined, period_stops}
use Rattle.hs_cooper.proofs.period.+periods.Goals as goal

pub period-returns-in-Joined-clause-value : goal.period-returns-in-Joined-clause-value
period-returns-in-Joined-clause-value t c =
    subst (λ p. IfSome c.period_of_all.result (IsPeriod c.args.budget p)) (period-Joined (place c.args.x) c.args.f.now _ c.in-Joined.fs c.args.m c.in-Joined.is) (rw c.as_slice.ensures at c.period_of_all.ensures.value)

pub period-returns-in-Joined-clause-over : goal.period-returns-in-Joined-clause-over
period-returns-in-Joined-clause-over t c = λ h k.
    subst (λ p. c.args.budget < p) (period-Joined (place c.args.x) c.args.f.now _ c.in-Joined.fs c.args.m c.in-Joined.is) ((rw c.as_slice.ensures at c.period_of_all.ensures.over) h (positive-Joined c.args.f.now _ c.in-Joined.fs c.in-Joined.is k))

pub period_of_all-returns-in-None-clause-over : goal.period_of_all-returns-in-None-clause-over
period_of_all-returns-in-None-clause-over t c = λ h k.
    period_stops (place c.args.x) c.args.fs.now c.loop-f.f-index c.f-item.result c.loop-f.multiple _ c.args.budget c.loop-f-test.true c.f-item.is c.loop-f.invariant.positive k c.loop-f.invariant.value (c.in-None.ensures.over refl)
