use Rattle.std.proofs.Common.{◌≡◌, false, sym, ap, ◌∙◌}
use Rattle.hs_heap.proofs.Tells.{list_all-map_at}
use Rattle.hs_goal.specs.Closed.{is_closed}
use Rattle.hs_goal.proofs.closed.+closed.Goals as goal

pub all_closed-returns-then-not-is_closed : goal.all_closed-returns-then-not-is_closed
all_closed-returns-then-not-is_closed t c =
    let fails : is_closed c.p-item.result ≡ false = sym c.is_closed.ensures ∙ c.if-not-is_closed.true in
    sym (list_all-map_at (λ b. b) is_closed c.args.ps.now c.loop-p.p-index c.p-item.result c.loop-p-test.true (ap is_closed (sym c.p-item.is) ∙ fails))
