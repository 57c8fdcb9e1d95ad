use Rattle.std.proofs.Common.{◌≡◌, true, false, ◌∙◌, int_lt, tests, rules}
use Rattle.hs_pure.specs.Truth.{value}
use Rattle.hs_equations.proofs.Lists.{ok-map}
use Rattle.hs_equations.proofs.literal.order.Goals as goal

pub returns-then-expected : goal.returns-then-expected
returns-then-expected c = ok-map c.below.result (λ r f s e. let t : int_lt (value s c.args.a.now) (value s c.args.b.now) ≡ true = e ∙ c.if-expected.true in f s (search (rules, tests))) c.below.ensures

pub returns-else-expected : goal.returns-else-expected
returns-else-expected c = ok-map c.at_most.result (λ r f s e. let t : int_lt (value s c.args.a.now) (value s c.args.b.now) ≡ false = e ∙ c.if-expected.false in f s (search (rules, tests))) c.at_most.ensures
