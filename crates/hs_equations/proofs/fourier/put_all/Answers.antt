use Rattle.hs_equations.specs.Rows.{IsMet}
use Rattle.hs_equations.proofs.Lists.{All-at}
use Rattle.hs_equations.proofs.fourier.put_all.Goals as goal

pub loop-low-preserved : goal.loop-low-preserved
loop-low-preserved c = λ s ls a.
    c.in_ok-now.ensures s (All-at (IsMet s) c.args.old.now c.loop-low.low-index c.low-item.result c.loop-low-test.true c.low-item.is ls) ls (c.loop-low.invariant s ls a)
