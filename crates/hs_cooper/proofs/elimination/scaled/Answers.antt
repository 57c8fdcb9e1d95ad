use Rattle.std.proofs.Common.{subst, ap, ◌∙◌, inl, inr, Err}
use Rattle.hs_pure.specs.Assertion.{assertion_of}
use Rattle.hs_elimination.specs.Linear.{place}
use Rattle.hs_elimination.specs.Form.{IsWide}
use Rattle.hs_elimination.specs.Scaling.{multiplier, stage2}
use Rattle.hs_cooper_forms.specs.Reading.{form_of}
use Rattle.hs_cooper.proofs.Thirds.{wide_given}
use Rattle.hs_cooper.proofs.Whole.{first_within, scaled_within, scaled_over, scaled_is}
use Rattle.hs_cooper.proofs.NarrowStages.{narrow_second}
use Rattle.hs_cooper.proofs.elimination.scaled.Goals as goal

pub returns-then-count_atoms-budget-clause-atoms : goal.returns-then-count_atoms-budget-clause-atoms
returns-then-count_atoms-budget-clause-atoms c = λ _. inr (inl (
  (first_within (assertion_of c.args.f.now) c.args.budget c.count_normal.result c.count_normal.ensures c.if-count_normal-budget.false, c.in_ok-normal.ensures.narrow),
  scaled_over c.args.x (assertion_of c.args.f.now) (form_of c.in_ok-normal.normal) c.args.budget c.count_atoms.result c.in_ok-normal.ensures.form c.count_atoms.ensures c.if-count_atoms-budget.true,
))

pub returns-in_err-second_stage-clause-wide : goal.returns-in_err-second_stage-clause-wide
returns-in_err-second_stage-clause-wide c = λ h. inr (inl (
  (first_within (assertion_of c.args.f.now) c.args.budget c.count_normal.result c.count_normal.ensures c.if-count_normal-budget.false, c.in_ok-normal.ensures.narrow),
  scaled_within c.args.x (assertion_of c.args.f.now) (form_of c.in_ok-normal.normal) c.args.budget c.count_atoms.result c.in_ok-normal.ensures.form c.count_atoms.ensures c.if-count_atoms-budget.false,
  subst (λ g. IsWide (stage2 c.args.x g)) c.in_ok-normal.ensures.form (c.in_err-second_stage.ensures.wide (ap Err (wide_given c.from_residual-in_err-second_stage.result c.in_err-second_stage.field-0.0 c.from_residual-in_err-second_stage.ensures.1 h))),
))

pub returns-clause-by : goal.returns-clause-by
returns-clause-by c = c.in_ok-second_stage.ensures.by ∙ ap (λ g. multiplier (place c.args.x) g 1) c.in_ok-normal.ensures.form

pub returns-clause-form : goal.returns-clause-form
returns-clause-form c = scaled_is c.args.x (assertion_of c.args.f.now) (form_of c.in_ok-normal.normal) _ c.in_ok-normal.ensures.form c.in_ok-second_stage.ensures.form

pub returns-clause-first : goal.returns-clause-first
returns-clause-first c = (first_within (assertion_of c.args.f.now) c.args.budget c.count_normal.result c.count_normal.ensures c.if-count_normal-budget.false, c.in_ok-normal.ensures.narrow)

pub returns-clause-second : goal.returns-clause-second
returns-clause-second c = (
  scaled_within c.args.x (assertion_of c.args.f.now) (form_of c.in_ok-normal.normal) c.args.budget c.count_atoms.result c.in_ok-normal.ensures.form c.count_atoms.ensures c.if-count_atoms-budget.false,
  narrow_second c.args.x (assertion_of c.args.f.now) (form_of c.in_ok-normal.normal) c.in_ok-normal.ensures.form c.in_ok-normal.ensures.narrow c.in_ok-second_stage.ensures.narrow,
)
