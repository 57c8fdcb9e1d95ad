use Rattle.std.proofs.Common.{◌∙◌}
use Rattle.hs_pure.specs.Truth.{value}
use Rattle.hs_equations.proofs.Steps.{opposite-apart}
use Rattle.hs_equations.proofs.rows.are_alike.Goals as goal

pub returns-then-opposite : goal.returns-then-opposite
returns-then-opposite c = λ t s n z. n (opposite-apart (value s c.args.a.now) (value s c.args.b.now) (c.in_ok-opposite.ensures c.if-opposite.true s) z)

pub returns-else-opposite : goal.returns-else-opposite
returns-else-opposite c = λ t s n z. n (c.in_ok-same.ensures t s ∙ z)
