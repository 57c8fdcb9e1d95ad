use Rattle.std.proofs.Common.{rules, sym, subst, ap, ◌∙◌, inr, Err}
use Rattle.std.specs.List.{Contains}
use Rattle.hs_pure.specs.declared.lin.Lin.{Lin}
use Rattle.hs_elimination.specs.Linear.{place, IsWideLin}
use Rattle.hs_elimination.specs.Cases.{distinct_bounds, cooper}
use Rattle.hs_elimination.specs.Normal.{evaluate}
use Rattle.hs_cooper_forms.specs.Reading.{form_of}
use Rattle.hs_cooper.proofs.Thirds.{wide-cases, stage3-joined, wide_given, refused_to}
use Rattle.hs_cooper.proofs.NarrowStages.{narrow-stage3}
use Rattle.hs_cooper.proofs.third.third_stage.Goals as goal

pub returns-in_err-cases-clause-wide : goal.returns-in_err-cases-clause-wide
returns-in_err-cases-clause-wide c = λ h. let w = c.in_err-cases.ensures.wide (search rules) in (w.0, inr w.1)

pub returns-in_err-all_cases-clause-wide : goal.returns-in_err-all_cases-clause-wide
returns-in_err-all_cases-clause-wide c = λ h. (
  c.in_ok-cases.ensures.within,
  wide-cases c.args.x (form_of c.args.f.now) c.requires.even (refused_to c.args.x (form_of c.args.f.now) c.as_slice.result.now c.in_ok-cases.cases.period
      (c.as_slice.ensures ∙ c.in_ok-cases.ensures.bounds) c.in_ok-cases.ensures.period
      (c.in_err-all_cases.ensures.wide (ap Err (wide_given c.from_residual-in_err-all_cases.result c.in_err-all_cases.field-0.0 c.from_residual-in_err-all_cases.ensures.1 h)))),
)

pub returns-clause-form : goal.returns-clause-form
returns-clause-form c =
    c.in_ok-all_cases.ensures.form ∙ stage3-joined (place c.args.x) (form_of c.args.f.now) c.as_slice.result.now c.in_ok-cases.cases.period
    ∙ ap (λ l. evaluate (cooper c.in_ok-cases.cases.period l (place c.args.x) (form_of c.args.f.now))) (c.as_slice.ensures ∙ c.in_ok-cases.ensures.bounds)
    ∙ ap (λ m. evaluate (cooper m (distinct_bounds (place c.args.x) (form_of c.args.f.now)) (place c.args.x) (form_of c.args.f.now))) c.in_ok-cases.ensures.period

pub returns-clause-narrow : goal.returns-clause-narrow
returns-clause-narrow c =
    narrow-stage3 c.args.x (form_of c.args.f.now) c.as_slice.result.now c.in_ok-cases.cases.period (c.as_slice.ensures ∙ c.in_ok-cases.ensures.bounds) c.in_ok-cases.ensures.period
    (subst (λ l. (b : Lin) → Contains l b → ¬ (IsWideLin b)) (sym c.as_slice.ensures) c.in_ok-cases.ensures.narrow) c.in_ok-all_cases.ensures.narrow
