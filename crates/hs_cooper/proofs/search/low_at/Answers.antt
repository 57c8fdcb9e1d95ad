use Rattle.std.proofs.Common.{rules, sym, ◌∙◌, subst, inl, inr, FitsSigned}
use mir.Syntax.{w128}
use Rattle.hs_pure.specs.Eval.{stack_of}
use Rattle.hs_elimination.specs.Witness.{low_value}
use Rattle.hs_cooper_forms.specs.Reading.{form_of}
use Rattle.hs_cooper.proofs.Searches.{low_is, refused_low, refused_number}
use Rattle.hs_cooper.proofs.search.low_at.Goals as goal

pub returns-in-Some-clause-first : goal.returns-in-Some-clause-first
returns-in-Some-clause-first c =
    low_is (stack_of c.args.v.now) c.args.x (form_of c.args.f.now) c.args.period c.args.j (form_of c.in_ok-case.case) c.lower_by.new.least c.in-Some.y
    c.in_ok-case.ensures.form (sym c.if-not-branch.false ∙ c.in_ok-is_true.ensures.truth) c.in_ok-lower_by.ensures.limit c.in-Some.ensures.0 c.in-Some.ensures.1

pub returns-in_err-is_true-clause-wide : goal.returns-in_err-is_true-clause-wide
returns-in_err-is_true-clause-wide c = λ h. inl (refused_low (stack_of c.args.v.now) c.args.x (form_of c.args.f.now) c.args.j (form_of c.in_ok-case.case) c.in_ok-case.ensures.form (c.in_err-is_true.ensures.wide (search rules)))

pub returns-in_err-lower_by-clause-wide : goal.returns-in_err-lower_by-clause-wide
returns-in_err-lower_by-clause-wide c = λ h.
    inr (refused_number (stack_of c.args.v.now) c.args.x (form_of c.args.f.now) c.args.period c.args.j (form_of c.in_ok-case.case)
    c.in_ok-case.ensures.form (sym c.if-not-branch.false ∙ c.in_ok-is_true.ensures.truth) (inr (c.in_err-lower_by.ensures.wide (search rules))))

pub returns-clause-wide : goal.returns-clause-wide
returns-clause-wide c = λ h.
    inr (refused_number (stack_of c.args.v.now) c.args.x (form_of c.args.f.now) c.args.period c.args.j (form_of c.in_ok-case.case)
    c.in_ok-case.ensures.form (sym c.if-not-branch.false ∙ c.in_ok-is_true.ensures.truth)
    (inl (λ fits. c.in-None.ensures (subst (λ a. FitsSigned w128 (low_value c.args.period c.args.j a)) (sym c.in_ok-lower_by.ensures.limit) fits))))
