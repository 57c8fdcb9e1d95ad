use Rattle.std.proofs.Common.{◌≡◌, ◌+◌, suc, rules, arith, sym, subst}
use Rattle.hs_pure.specs.Occurs.{top_of}
use Rattle.hs_decide.specs.Reduced.{IsReducedQuestion}
use Rattle.hs_decide.proofs.Reducing.{reduced_question, large_reduction, wide_reduction}
use Rattle.hs_decide.proofs.counting.reduction.Goals as goal

pub returns-in_err-reduced-clause-atoms : goal.returns-in_err-reduced-clause-atoms
returns-in_err-reduced-clause-atoms c = λ h.
    let next : c.top.result + 1 ≡ suc (top_of c.args.question.now) = omega (arith, c.top.ensures.value) in
    large_reduction c.args.question.now (c.top.result + 1) next c.bags_plain_is_of_assertion.ensures c.bagless_has_no_bags.ensures c.requires.plain c.args.atoms
    (c.in_err-reduced.ensures.atoms (search rules)) (c.in_err-reduced.ensures.free (search rules))

pub returns-in_err-reduced-clause-wide : goal.returns-in_err-reduced-clause-wide
returns-in_err-reduced-clause-wide c = λ h.
    let next : c.top.result + 1 ≡ suc (top_of c.args.question.now) = omega (arith, c.top.ensures.value) in
    wide_reduction c.args.question.now (c.top.result + 1) next (c.in_err-reduced.ensures.wide (search rules))

pub returns-clause-reduced : goal.returns-clause-reduced
returns-clause-reduced c =
    let next : c.top.result + 1 ≡ suc (top_of c.args.question.now) = omega (arith, c.top.ensures.value) in
    subst (IsReducedQuestion c.args.question.now) (sym c.in_ok-boxed.ensures)
    (reduced_question c.args.question.now (c.top.result + 1) next c.in_ok-reduced.reduced c.requires.plain c.requires.ordered c.in_ok-reduced.ensures.exact c.in_ok-reduced.ensures.counts)
