use Rattle.std.proofs.Common.{arith, rules}
use Rattle.hs_elimination.specs.Linear.{place}
use Rattle.hs_cooper_forms.specs.Reading.{form_of}
use Rattle.hs_cooper.specs.Casing.{HasWideAt, HasWideGiven}
use Rattle.hs_cooper_forms.proofs.Members.{each_next}
use Rattle.hs_cooper.proofs.Thirds.{next_cases}
use Rattle.hs_cooper.proofs.cases.all_cases.Goals as goal

pub loop-j-preserved : goal.loop-j-preserved
loop-j-preserved c = record {
  same = search rules;
  form = next_cases (place c.args.x) (form_of c.args.f.now) c.args.bounds.now c.loop-j.j _ _ (omega arith) c.loop-j.invariant.form c.in_ok-add_cases.ensures.form;
  proper = search rules;
  narrow = each_next (λ i. HasWideAt c.args.x (form_of c.args.f.now) c.args.bounds.now i → HasWideGiven (form_of c.args.f.now) c.args.bounds.now) c.loop-j.j c.loop-j.invariant.narrow c.in_ok-add_cases.ensures.narrow;
}
