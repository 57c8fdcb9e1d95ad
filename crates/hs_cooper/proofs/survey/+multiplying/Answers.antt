use Rattle.std.proofs.Common.{arith, subst, SomeIff, ◌<◌, ◌^◌}
use Rattle.hs_elimination.specs.Linear.{place}
use Rattle.hs_elimination.proofs.Elimination.{multiplier-positive}
use Rattle.hs_cooper_forms.specs.Reading.{form_of}
use Rattle.hs_cooper.proofs.Surveys.{multiplier-Joined, multiplier_next, multiplier_stops}
use Rattle.hs_cooper.proofs.survey.+multiplying.Goals as goal

pub multiplier-returns-in-Joined : goal.multiplier-returns-in-Joined
multiplier-returns-in-Joined t c =
    subst (λ n. SomeIff c.multiplier_of_all.result (n < 2 ^ 127) n) (multiplier-Joined (place c.args.x) c.args.f.now _ c.in-Joined.fs c.args.m c.in-Joined.is) (rw c.as_slice.ensures at c.multiplier_of_all.ensures)

pub multiplier_of_all-returns-in-None : goal.multiplier_of_all-returns-in-None
multiplier_of_all-returns-in-None t c = λ h.
    let big = multiplier_stops (place c.args.x) c.args.fs.now c.loop-f.f-index c.f-item.result c.loop-f.multiple _ c.loop-f-test.true c.f-item.is c.loop-f.invariant.positive c.loop-f.invariant.value in
    c.in-None.ensures (omega (arith, big))

pub multiplier_of_all-loop-f-preserved : goal.multiplier_of_all-loop-f-preserved
multiplier_of_all-loop-f-preserved t c =
    let up = multiplier-positive (place c.args.x) (form_of c.f-item.result) c.loop-f.multiple c.loop-f.invariant.positive in
    record {
      positive = omega (arith, up, c.in-Some.ensures.1);
      fits = omega (arith, c.in-Some.ensures.0, c.in-Some.ensures.1);
      value = multiplier_next (place c.args.x) c.args.fs.now c.loop-f.f-index c.f-item.result c.loop-f.multiple c.in-Some.next _ c.loop-f-test.true c.f-item.is c.in-Some.ensures.1 c.loop-f.invariant.value;
    }
