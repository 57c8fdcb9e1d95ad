use Rattle.std.proofs.Common.{sym, ◌∙◌, ap}
use Rattle.hs_pure.proofs.Lists.{list_any-map_at}
use Rattle.hs_tests_formulas.specs.Binding.{binds}
use Rattle.hs_tests_formulas.proofs.quantifiers.+binds.Goals as goal

pub any_binds-returns-then-binds : goal.any_binds-returns-then-binds
any_binds-returns-then-binds t c =
    sym (list_any-map_at (λ b. b) binds c.args.ps.now c.loop-p.p-index c.p-item.result c.loop-p-test.true
    (ap binds (sym c.p-item.is) ∙ sym c.binds.ensures ∙ c.if-binds.true))
