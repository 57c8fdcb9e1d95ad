use Rattle.hs_equations.specs.Rows.{IsMet}
use Rattle.hs_equations.proofs.Lists.{All-at}
use Rattle.hs_equations.proofs.rows.moved_end.Goals as goal

pub returns-then-alike : goal.returns-then-alike
returns-then-alike c = λ s all n. c.in_ok-moved.ensures s (All-at (IsMet s) c.args.rows.now c.loop-row.row-index c.row-item.result c.loop-row-test.true c.row-item.is all) (c.in_ok-alike.ensures c.if-alike.true s n)
