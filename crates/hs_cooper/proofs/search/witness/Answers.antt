use Rattle.std.proofs.Common.{rules, arith, subst, sym, ap, ◌∙◌, ◌≡◌, ℕ, ◌<◌, ◌≤◌, inl, inr, Err, Some, None, pos, int_div}
use mir.Syntax.{w128}
use mir.Val.{SFits, to_z, of_z}
use Rattle.std.proofs.lemmas.Int.{to_z-of_z}
use Rattle.hs_pure.specs.Assertion.{assertion_of}
use Rattle.hs_pure.specs.Eval.{stack_of}
use Rattle.hs_elimination.specs.Linear.{place}
use Rattle.hs_elimination.specs.Form.{atoms}
use Rattle.hs_elimination.specs.Cases.{stage3}
use Rattle.hs_elimination.specs.Elimination.{normal_form, HasWideSum}
use Rattle.hs_elimination.specs.Normal.{evaluate}
use Rattle.hs_elimination.proofs.Elimination.{multiplier-positive}
use Rattle.hs_cooper_forms.specs.Reading.{form_of}
use Rattle.hs_cooper.specs.Surveying.{HasPositive}
use Rattle.hs_cooper.proofs.Thirds.{wide_given}
use Rattle.hs_cooper.proofs.Whole.{small_scaled, positive-second}
use Rattle.hs_cooper.proofs.Searches.{wide_search, plain_is, true_there, true_nowhere}
use Rattle.hs_cooper.proofs.search.witness.Goals as goal

pub count_cases-requires-clause-within : goal.count_cases-requires-clause-within
count_cases-requires-clause-within c = small_scaled c.args.x (assertion_of c.args.f.now) (form_of c.in_ok-scaled.scaled.formula) c.args.budget c.in_ok-scaled.ensures.form c.in_ok-scaled.ensures.second.0

pub count_cases-requires-clause-positive : goal.count_cases-requires-clause-positive
count_cases-requires-clause-positive c = subst HasPositive (sym c.in_ok-scaled.ensures.form) (positive-second c.args.x c.args.f.now c.requires.ordered)

pub returns-in_err-cases-clause-wide : goal.returns-in_err-cases-clause-wide
returns-in_err-cases-clause-wide c = λ h.
    let w = subst (λ g. (atoms (stage3 c.args.x g) ≤ c.args.budget) × HasWideSum (place c.args.x) g) c.in_ok-scaled.ensures.form (c.in_err-cases.ensures.wide (search rules)) in
    inl (inr (inr (c.in_ok-scaled.ensures.first, c.in_ok-scaled.ensures.second, w.0, inr w.1)))

pub returns-in_err-found-clause-wide : goal.returns-in_err-found-clause-wide
returns-in_err-found-clause-wide c = λ h.
    wide_search c.args.x c.args.f.now (stack_of c.args.v.now) c.requires.ordered (form_of c.in_ok-scaled.scaled.formula) c.as_slice.result.now c.in_ok-cases.cases.period
    c.in_ok-scaled.ensures.form c.in_ok-cases.ensures.period c.args.budget (c.as_slice.ensures ∙ c.in_ok-cases.ensures.bounds)
    c.in_ok-scaled.ensures.first c.in_ok-scaled.ensures.second c.in_ok-cases.ensures.within
    (c.in_err-found.ensures.wide (ap Err (wide_given c.from_residual-in_err-found.result c.in_err-found.field-0.0 c.from_residual-in_err-found.ensures.1 h)))

pub quotient-requires-clause-some : goal.quotient-requires-clause-some
quotient-requires-clause-some c =
    subst (λ (n : ℕ). 0 < n) (sym c.in_ok-scaled.ensures.by) (multiplier-positive (place c.args.x) (evaluate (normal_form (assertion_of c.args.f.now))) 1 (omega arith))

pub returns-in-Some-clause-plain : goal.returns-in-Some-clause-plain
returns-in-Some-clause-plain c =
    let fits_y : SFits w128 c.in-Some.y = search rules in
    let fits_r : SFits w128 c.quotient.result = search rules in
    let r_is : to_z w128 (of_z w128 c.quotient.result) ≡ int_div c.in-Some.y (pos c.in_ok-scaled.scaled.by)
    = to_z-of_z w128 c.quotient.result fits_r ∙ c.quotient.ensures ∙ ap (λ z. int_div z (pos c.in_ok-scaled.scaled.by)) (to_z-of_z w128 c.in-Some.y fits_y) in
    ap Some r_is
    ∙ plain_is c.args.x c.args.f.now (stack_of c.args.v.now) (form_of c.in_ok-scaled.scaled.formula) c.as_slice.result.now c.in_ok-cases.cases.period
    c.in_ok-scaled.ensures.form c.in_ok-cases.ensures.period c.in_ok-scaled.scaled.by (Some c.in-Some.y) c.in_ok-scaled.ensures.by (c.as_slice.ensures ∙ c.in_ok-cases.ensures.bounds)
    (sym c.in-Some.is ∙ c.in_ok-found.ensures.first)

pub returns-in-Some-clause-found : goal.returns-in-Some-clause-found
returns-in-Some-clause-found c = true_there c.args.x c.args.f.now (stack_of c.args.v.now) c.requires.simple c.requires.ordered _ (returns-in-Some-clause-plain c)

pub returns-clause-plain : goal.returns-clause-plain
returns-clause-plain c =
    plain_is c.args.x c.args.f.now (stack_of c.args.v.now) (form_of c.in_ok-scaled.scaled.formula) c.as_slice.result.now c.in_ok-cases.cases.period
    c.in_ok-scaled.ensures.form c.in_ok-cases.ensures.period c.in_ok-scaled.scaled.by None c.in_ok-scaled.ensures.by (c.as_slice.ensures ∙ c.in_ok-cases.ensures.bounds)
    (sym c.in-None.is ∙ c.in_ok-found.ensures.first)

pub returns-clause-none : goal.returns-clause-none
returns-clause-none c = λ _. true_nowhere c.args.x c.args.f.now (stack_of c.args.v.now) c.requires.simple c.requires.ordered (returns-clause-plain c)
