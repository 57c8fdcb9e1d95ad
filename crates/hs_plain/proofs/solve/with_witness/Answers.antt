use Rattle.std.proofs.Common.{rules, inl, inr, sym, ap, ◌∙◌, subst}
use mir.Syntax.{w128}
use mir.Val.{SFits}
use Rattle.std.proofs.lemmas.Int.{to_z-of_z}
use Rattle.hs_pure.specs.Assertion.{assertion_of}
use Rattle.hs_pure.specs.Eval.{stack_of}
use Rattle.hs_pure.specs.Stack.{with_value, number_value}
use Rattle.hs_pure.specs.Truth.{TrueAt}
use Rattle.hs_plain.specs.Span.{value_or_zero}
use Rattle.hs_quantifiers.proofs.Stages.{size-passes, wide-passes}
use Rattle.hs_plain.proofs.solve.with_witness.Goals as goal

pub returns-in_err-y-clause-atoms : goal.returns-in_err-y-clause-atoms
returns-in_err-y-clause-atoms c = λ h. size-passes c.args.atoms c.args.x (assertion_of c.args.p.now) (c.in_err-y.ensures.atoms (search rules))

pub returns-in_err-y-clause-wide : goal.returns-in_err-y-clause-wide
returns-in_err-y-clause-wide c = λ h. elim (c.in_err-y.ensures.wide (search rules)) [ inl w ↦ inl (wide-passes c.args.atoms c.args.x (assertion_of c.args.p.now) w) | inr w ↦ inr w ]

pub returns-in_ok-with_number-in-Some-clause-found : goal.returns-in_ok-with_number-in-Some-clause-found
returns-in_ok-with_number-in-Some-clause-found c =
    let fits : SFits w128 c.in-Some.y = search rules in
    subst (λ s. TrueAt s c.args.p.now) (sym c.in_ok-with_number-in-Some.ensures.stack)
    (subst (λ z. TrueAt (with_value c.args.x (number_value z) (stack_of c.args.values)) c.args.p.now) (sym (to_z-of_z w128 c.in-Some.y fits)) (rw c.in-Some.is at c.in_ok-y.ensures.found))

pub returns-in_ok-with_number-in-Some-clause-plain : goal.returns-in_ok-with_number-in-Some-clause-plain
returns-in_ok-with_number-in-Some-clause-plain c =
    let fits : SFits w128 c.in-Some.y = search rules in (
      c.in_ok-with_number-in-Some.ensures.bags,
      c.in_ok-with_number-in-Some.ensures.stack ∙ ap (λ z. with_value c.args.x (number_value z) (stack_of c.args.values)) (to_z-of_z w128 c.in-Some.y fits)
          ∙ ap (λ o. with_value c.args.x (number_value (value_or_zero o)) (stack_of c.args.values)) (sym c.in-Some.is ∙ c.in_ok-y.ensures.plain),
    )

pub returns-in-None-clause-none : goal.returns-in-None-clause-none
returns-in-None-clause-none c = λ _. c.in_ok-y.ensures.none c.in-None.is
