use Rattle.std.proofs.Common.{sym, ◌∙◌, ap}
use Rattle.hs_pure.specs.Eval.{has_quantifiers}
use Rattle.hs_pure.proofs.Lists.{list_any-map_at}
use Rattle.hs_tests_formulas.proofs.quantifiers.+has_quantifiers.Goals as goal

pub any_has-returns-then-has_quantifiers : goal.any_has-returns-then-has_quantifiers
any_has-returns-then-has_quantifiers t c =
    sym (list_any-map_at (λ b. b) has_quantifiers c.args.ps.now c.loop-p.p-index c.p-item.result c.loop-p-test.true
    (ap has_quantifiers (sym c.p-item.is) ∙ sym c.has_quantifiers.ensures ∙ c.if-has_quantifiers.true))
