use Rattle.std.proofs.Common.{rules, inl, ◌∙◌}
use Rattle.std.proofs.lemmas.Option.{IfSome_then}
use Rattle.hs_pure.specs.Assertion.{assertion_of}
use Rattle.hs_pure.specs.Eval.{stack_of}
use Rattle.hs_elimination.specs.Decided.{without_quantifiers}
use Rattle.hs_cooper_forms.proofs.Changes.{ok_map}
use Rattle.hs_plain.specs.Variables.{free_variables}
use Rattle.hs_quantifiers.specs.Size.{quantifier_size}
use Rattle.hs_plain.specs.Size.{chain_size}
use Rattle.hs_quantifiers.proofs.Stages.{max_left}
use Rattle.hs_quantifiers.proofs.Parts.{simple_of, ordered_of}
use Rattle.hs_plain.proofs.Questions.{named-question, plain_values-question, true-question, true-without, size-question, wide-question}
use Rattle.hs_plain.proofs.plain.solution.Goals as goal

pub returns-in_err-plain-clause-atoms : goal.returns-in_err-plain-clause-atoms
returns-in_err-plain-clause-atoms c = λ h.
    max_left c.args.atoms (quantifier_size (assertion_of c.args.question.now)) (chain_size (free_variables (assertion_of c.args.question.now)) (without_quantifiers (assertion_of c.args.question.now))) (c.in_err-plain.ensures.atoms (search rules))

pub returns-in_err-plain-clause-wide : goal.returns-in_err-plain-clause-wide
returns-in_err-plain-clause-wide c = λ h. inl (c.in_err-plain.ensures.wide (search rules))

pub solve-requires-clause-simple : goal.solve-requires-clause-simple
solve-requires-clause-simple c = simple_of c.args.question.now c.in_ok-plain.plain c.requires.no_bags c.requires.ordered c.in_ok-plain.ensures.exact

pub solve-requires-clause-ordered : goal.solve-requires-clause-ordered
solve-requires-clause-ordered c = ordered_of c.args.question.now c.in_ok-plain.plain c.requires.no_bags c.requires.ordered c.in_ok-plain.ensures.exact

pub solve-requires-clause-named : goal.solve-requires-clause-named
solve-requires-clause-named c = named-question c.args.question.now c.in_ok-plain.plain c.requires.no_bags c.in_ok-plain.ensures.exact c.as_slice.result.now (c.as_slice.ensures.value ∙ c.in-Ok.ensures)

pub returns-clause-found : goal.returns-clause-found
returns-clause-found c =
    ok_map c.solve.result (λ o h. IfSome_then o h (λ v. true-question c.args.question.now c.in_ok-plain.plain c.requires.no_bags c.in_ok-plain.ensures.exact c.requires.ordered (stack_of v))) c.solve.ensures.found

pub returns-clause-values : goal.returns-clause-values
returns-clause-values c =
    ok_map c.solve.result
    (λ o h. IfSome_then o h (λ v k. (k.0, k.1 ∙ plain_values-question c.args.question.now c.in_ok-plain.plain c.requires.no_bags c.in_ok-plain.ensures.exact c.as_slice.result.now (c.as_slice.ensures.value ∙ c.in-Ok.ensures))))
    c.solve.ensures.plain

pub returns-clause-none : goal.returns-clause-none
returns-clause-none c =
    ok_map c.solve.result (λ o never is s h. never is s (true-without c.args.question.now c.in_ok-plain.plain c.requires.no_bags c.in_ok-plain.ensures.exact c.requires.ordered s h)) c.solve.ensures.none

pub returns-clause-atoms : goal.returns-clause-atoms
returns-clause-atoms c = λ h. size-question c.args.question.now c.in_ok-plain.plain c.requires.no_bags c.in_ok-plain.ensures.exact c.args.atoms c.as_slice.result.now (c.as_slice.ensures.value ∙ c.in-Ok.ensures) (c.solve.ensures.atoms h)

pub returns-clause-wide : goal.returns-clause-wide
returns-clause-wide c = λ h. wide-question c.args.question.now c.in_ok-plain.plain c.requires.no_bags c.in_ok-plain.ensures.exact c.as_slice.result.now (c.as_slice.ensures.value ∙ c.in-Ok.ensures) (c.solve.ensures.wide h)
