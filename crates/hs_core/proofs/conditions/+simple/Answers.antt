use Rattle.std.proofs.Common.{◌≡◌, false, map, sym, ap, ◌∙◌}
use Rattle.std.specs.List.{list_all}
use Rattle.hs_heap.proofs.Tells.{list_all-map_at}
use Rattle.hs_core.specs.Tests.{is_simple}
use Rattle.hs_core.proofs.conditions.+simple.Goals as goal

pub are_simple-returns-then-not-is_simple : goal.are_simple-returns-then-not-is_simple
are_simple-returns-then-not-is_simple t c =
    let fails : is_simple c.p-item.result ≡ false = sym c.is_simple.ensures ∙ c.if-not-is_simple.true in
    let none : list_all (λ b. b) (map is_simple c.args.ps.now) ≡ false =
    list_all-map_at (λ b. b) is_simple c.args.ps.now c.loop-p.p-index c.p-item.result c.loop-p-test.true (ap is_simple (sym c.p-item.is) ∙ fails) in
    sym none
