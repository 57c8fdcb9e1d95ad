use Rattle.std.proofs.Common.{◌≡◌, false, sym, ap, ◌∙◌}
use Rattle.hs_heap.proofs.Tells.{list_all-map_at}
use Rattle.hs_side_rules.specs.Splitting.{may_occur, all_in_formula}
use Rattle.hs_side_rules.proofs.occurring.+variables.Goals as goal

pub all_in_members-returns-then-not-all_in_formula : goal.all_in_members-returns-then-not-all_in_formula
all_in_members-returns-then-not-all_in_formula t c =
    let test = all_in_formula (may_occur c.args.goal.now c.args.f.now) in
    let fails : test c.p-item.result ≡ false = sym c.all_in_formula.ensures ∙ c.if-not-all_in_formula.true in
    sym (list_all-map_at (λ b. b) test c.args.ps.now c.loop-p.p-index c.p-item.result c.loop-p-test.true (ap test (sym c.p-item.is) ∙ fails))
