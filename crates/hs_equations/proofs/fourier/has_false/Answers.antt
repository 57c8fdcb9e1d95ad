use Rattle.hs_equations.specs.Rows.{IsMet}
use Rattle.hs_equations.proofs.Lists.{All-at}
use Rattle.hs_equations.proofs.fourier.has_false.Goals as goal

pub returns-then-is_false : goal.returns-then-is_false
returns-then-is_false c = λ t s all. c.is_false.ensures c.if-is_false.true s (All-at (IsMet s) c.args.rows.now c.loop-row.row-index c.row-item.result c.loop-row-test.true c.row-item.is all)
