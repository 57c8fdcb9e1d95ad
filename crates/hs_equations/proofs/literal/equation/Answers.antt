use Rattle.std.proofs.Common.{negsuc, refl, ◌∙◌}
use Rattle.hs_pure.specs.Truth.{value}
use Rattle.hs_equations.proofs.Literals.{equal-row, apart-row}
use Rattle.hs_equations.proofs.literal.equation.Goals as goal

pub returns-then-expected : goal.returns-then-expected
returns-then-expected c = λ s e. equal-row (negsuc 0) (value s c.args.b.now) (value s c.args.a.now) _ refl (c.in_ok-sum.ensures s) (e ∙ c.if-expected.true)

pub returns-else-expected : goal.returns-else-expected
returns-else-expected c = λ s e. apart-row (negsuc 0) (value s c.args.b.now) (value s c.args.a.now) _ refl (c.in_ok-sum.ensures s) (e ∙ c.if-expected.false)
