use Rattle.std.proofs.Common.{rules, subst, sym, ap, ◌≤◌, ◌⊎◌, inl, inr, Err}
use Rattle.hs_pure.specs.Assertion.{assertion_of}
use Rattle.hs_elimination.specs.Linear.{place}
use Rattle.hs_elimination.specs.Form.{atoms, IsWide}
use Rattle.hs_elimination.specs.Cases.{stage3}
use Rattle.hs_elimination.specs.Elimination.{HasWideSum}
use Rattle.hs_cooper_forms.specs.Reading.{form_of}
use Rattle.hs_cooper_forms.specs.Changing.{HasUneven}
use Rattle.hs_cooper.specs.Surveying.{HasPositive}
use Rattle.hs_cooper.proofs.Thirds.{wide_given}
use Rattle.hs_cooper.proofs.Whole.{small_scaled, result_is, wide-evaluate, even-second, positive-second, truth-result, lacks-result, ordered-result}
use Rattle.hs_cooper.proofs.NarrowStages.{narrow_third}
use Rattle.hs_cooper.proofs.elimination.eliminate.Goals as goal

pub third_stage-requires-clause-within : goal.third_stage-requires-clause-within
third_stage-requires-clause-within c = small_scaled c.args.x (assertion_of c.args.f.now) (form_of c.in_ok-scaled.scaled.formula) c.args.budget c.in_ok-scaled.ensures.form c.in_ok-scaled.ensures.second.0

pub third_stage-requires-clause-positive : goal.third_stage-requires-clause-positive
third_stage-requires-clause-positive c = subst HasPositive (sym c.in_ok-scaled.ensures.form) (positive-second c.args.x c.args.f.now c.requires.ordered)

pub third_stage-requires-clause-even : goal.third_stage-requires-clause-even
third_stage-requires-clause-even c = subst (λ g. ¬ (HasUneven (place c.args.x) g)) (sym c.in_ok-scaled.ensures.form) (even-second c.args.x c.args.f.now c.requires.ordered)

pub returns-in_err-cases-clause-wide : goal.returns-in_err-cases-clause-wide
returns-in_err-cases-clause-wide c = λ h.
    let w = subst (λ g. (atoms (stage3 c.args.x g) ≤ c.args.budget) × (IsWide (stage3 c.args.x g) ⊎ HasWideSum (place c.args.x) g)) c.in_ok-scaled.ensures.form (c.in_err-cases.ensures.wide (search rules)) in
    inr (inr (c.in_ok-scaled.ensures.first, c.in_ok-scaled.ensures.second, w.0, w.1))

pub returns-in_err-to_pure-clause-wide : goal.returns-in_err-to_pure-clause-wide
returns-in_err-to_pure-clause-wide c = λ h.
    let wide = c.in_err-to_pure.ensures.wide (ap Err (wide_given c.from_residual-in_err-to_pure.result c.in_err-to_pure.field-0.0 c.from_residual-in_err-to_pure.ensures.1 h)) in
    let whole = wide-evaluate (stage3 c.args.x (form_of c.in_ok-scaled.scaled.formula)) (subst IsWide c.in_ok-cases.ensures.form wide) in
    inr (inr (c.in_ok-scaled.ensures.first, c.in_ok-scaled.ensures.second, subst (λ g. atoms (stage3 c.args.x g) ≤ c.args.budget) c.in_ok-scaled.ensures.form c.in_ok-cases.ensures.within, inl (subst (λ g. IsWide (stage3 c.args.x g)) c.in_ok-scaled.ensures.form whole)))

pub returns-clause-truth : goal.returns-clause-truth
returns-clause-truth c = truth-result c.args.x c.args.f.now c.in_ok-to_pure.field-0 c.requires.simple c.requires.ordered (result_is c.args.x (assertion_of c.args.f.now) (form_of c.in_ok-scaled.scaled.formula) (form_of c.in_ok-cases.cases) (assertion_of c.in_ok-to_pure.field-0) c.in_ok-scaled.ensures.form c.in_ok-cases.ensures.form c.in_ok-to_pure.ensures.form)

pub returns-clause-lacks : goal.returns-clause-lacks
returns-clause-lacks c = lacks-result c.args.x c.args.f.now c.in_ok-to_pure.field-0 (result_is c.args.x (assertion_of c.args.f.now) (form_of c.in_ok-scaled.scaled.formula) (form_of c.in_ok-cases.cases) (assertion_of c.in_ok-to_pure.field-0) c.in_ok-scaled.ensures.form c.in_ok-cases.ensures.form c.in_ok-to_pure.ensures.form)

pub returns-clause-ordered : goal.returns-clause-ordered
returns-clause-ordered c = ordered-result c.args.x c.args.f.now c.in_ok-to_pure.field-0 c.requires.ordered (result_is c.args.x (assertion_of c.args.f.now) (form_of c.in_ok-scaled.scaled.formula) (form_of c.in_ok-cases.cases) (assertion_of c.in_ok-to_pure.field-0) c.in_ok-scaled.ensures.form c.in_ok-cases.ensures.form c.in_ok-to_pure.ensures.form)

pub returns-clause-within : goal.returns-clause-within
returns-clause-within c = record {
  first = c.in_ok-scaled.ensures.first;
  second = c.in_ok-scaled.ensures.second;
  third_atoms = subst (λ g. atoms (stage3 c.args.x g) ≤ c.args.budget) c.in_ok-scaled.ensures.form c.in_ok-cases.ensures.within;
  third_bits = narrow_third c.args.x (assertion_of c.args.f.now) (form_of c.in_ok-scaled.scaled.formula) c.in_ok-scaled.ensures.form c.in_ok-scaled.ensures.second.1 c.in_ok-cases.ensures.narrow;
}
