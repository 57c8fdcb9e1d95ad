use Rattle.std.proofs.Common.{sym, ◌∙◌, ap}
use Rattle.hs_pure.specs.Occurs.{is_free}
use Rattle.hs_pure.proofs.Lists.{list_any-map_at}
use Rattle.hs_pure.proofs.pure.+has.Goals as goal

pub any_has-returns-then-has : goal.any_has-returns-then-has
any_has-returns-then-has t c =
    sym (list_any-map_at (λ b. b) (is_free c.args.v) c.args.ps.now c.loop-p.p-index c.p-item.result c.loop-p-test.true
    (ap (is_free c.args.v) (sym c.p-item.is) ∙ sym c.has.ensures ∙ c.if-has.true))
