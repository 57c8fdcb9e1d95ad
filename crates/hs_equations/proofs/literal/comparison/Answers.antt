use Rattle.std.proofs.Common.{pos, ap, ◌∙◌, rules}
use Rattle.hs_pure.specs.declared.pure.Pure.TheVariants as pure_of
use Rattle.hs_pure.specs.Truth.{value}
use Rattle.hs_equations.proofs.Tests.{test-Eq, test-Lt, test-Le, test-Divides}
use Rattle.hs_equations.proofs.literal.comparison.Goals as goal

pub returns-in_ok-equation-in-Eq : goal.returns-in_ok-equation-in-Eq
returns-in_ok-equation-in-Eq c = λ s e. c.in_ok-equation-in-Eq.ensures s (test-Eq s c.args.p.now c.in-Eq.a c.in-Eq.b c.args.expected c.in-Eq.is e)

pub returns-in_ok-order-in-Lt : goal.returns-in_ok-order-in-Lt
returns-in_ok-order-in-Lt c = λ s e. c.in_ok-order-in-Lt.ensures s (test-Lt s c.args.p.now c.in-Lt.a c.in-Lt.b c.args.expected c.in-Lt.is e)

pub returns-in_ok-order-in-Le : goal.returns-in_ok-order-in-Le
returns-in_ok-order-in-Le c = λ s e. c.in_ok-order-in-Le.ensures s (test-Le s c.args.p.now c.in-Le.a c.in-Le.b c.args.expected c.in-Le.is e)

pub returns-in-Divides : goal.returns-in-Divides
returns-in-Divides c = λ s e. c.divided_by_one.ensures s (value s c.in-Divides.field-1) (test-Divides s c.args.p.now (pos 1) c.in-Divides.field-1 c.args.expected (c.in-Divides.is ∙ ap (λ d. pure_of.Divides d c.in-Divides.field-1) (search rules)) e)
