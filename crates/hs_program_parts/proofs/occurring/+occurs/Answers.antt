use Rattle.std.proofs.Common.{sym, ◌∙◌, ap}
use Rattle.hs_pure.specs.Occurs.{occurs}
use Rattle.hs_pure.proofs.Lists.{list_any-map_at}
use Rattle.hs_program_parts.proofs.occurring.+occurs.Goals as goal

pub any_occurs-returns-then-occurs : goal.any_occurs-returns-then-occurs
any_occurs-returns-then-occurs t c =
    sym (list_any-map_at (λ b. b) (occurs c.args.v) c.args.ps.now c.loop-p.p-index c.p-item.result c.loop-p-test.true
    (ap (occurs c.args.v) (sym c.p-item.is) ∙ sym c.occurs.ensures ∙ c.if-occurs.true))
