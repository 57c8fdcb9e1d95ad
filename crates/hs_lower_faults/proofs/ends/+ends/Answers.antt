use Rattle.std.proofs.Common.{◌≡◌, false, map, sym, ap, ◌∙◌}
use Rattle.std.specs.List.{list_all}
use Rattle.hs_heap.proofs.Tells.{list_all-map_at}
use Rattle.hs_lower_faults.specs.Ends.{statement_ends}
use Rattle.hs_lower_faults.proofs.ends.+ends.Goals as goal

pub statements_end-returns-then-not-statement_ends : goal.statements_end-returns-then-not-statement_ends
statements_end-returns-then-not-statement_ends t c =
    let fails : statement_ends c.tree-item.result ≡ false = sym c.statement_ends.ensures ∙ c.if-not-statement_ends.true in
    let none : list_all (λ b. b) (map statement_ends c.args.trees.now) ≡ false =
    list_all-map_at (λ b. b) statement_ends c.args.trees.now c.loop-tree.tree-index c.tree-item.result c.loop-tree-test.true (ap statement_ends (sym c.tree-item.is) ∙ fails) in
    sym none
