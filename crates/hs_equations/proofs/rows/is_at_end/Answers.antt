use Rattle.hs_equations.specs.Rows.{IsMet}
use Rattle.hs_equations.proofs.Lists.{All-at}
use Rattle.hs_equations.proofs.rows.is_at_end.Goals as goal

pub returns-then-found : goal.returns-then-found
returns-then-found c = λ t s all. c.in_ok-found.ensures c.if-found.true s (All-at (IsMet s) c.args.rows.now c.loop-row.row-index c.row-item.result c.loop-row-test.true c.row-item.is all)
