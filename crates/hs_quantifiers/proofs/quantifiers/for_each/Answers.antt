use Rattle.std.proofs.Common.{rules, subst}
use Rattle.hs_quantifiers.specs.Span.{HasWideStages}
use Rattle.hs_quantifiers.proofs.Parts.{simple_denied, ordered_denied}
use Rattle.hs_quantifiers.proofs.quantifiers.for_each.Goals as goal

pub for_some-requires-clause-simple : goal.for_some-requires-clause-simple
for_some-requires-clause-simple c = simple_denied c.args.p c.in_ok-denied.denied c.in_ok-denied.ensures.form c.requires.simple

pub for_some-requires-clause-ordered : goal.for_some-requires-clause-ordered
for_some-requires-clause-ordered c = ordered_denied c.args.p c.in_ok-denied.denied c.in_ok-denied.ensures.form c.requires.ordered

pub returns-in_err-some-clause-wide : goal.returns-in_err-some-clause-wide
returns-in_err-some-clause-wide c = λ h. subst (HasWideStages c.args.u) c.in_ok-denied.ensures.form (c.in_err-some.ensures.wide (search rules))
