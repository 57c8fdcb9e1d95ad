use Rattle.hs_equations.specs.Rows.{IsMet}
use Rattle.hs_equations.proofs.Lists.{All-at}
use Rattle.hs_equations.proofs.clash.clash_any.Goals as goal

pub returns-then-found : goal.returns-then-found
returns-then-found c = λ t s all. c.in_ok-found.ensures c.if-found.true s (All-at (IsMet s) c.args.rows.now c.loop-other.other-index c.other-item.result c.loop-other-test.true c.other-item.is all)
