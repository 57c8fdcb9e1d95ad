use Rattle.hs_equations.specs.Rows.{IsMet}
use Rattle.hs_equations.proofs.Lists.{All-at}
use Rattle.hs_equations.proofs.fourier.put_pairs.Goals as goal

pub loop-high-preserved : goal.loop-high-preserved
loop-high-preserved c = λ s l hs a.
    c.in_ok-now.ensures s l (All-at (IsMet s) c.args.highs.now c.loop-high.high-index c.high-item.result c.loop-high-test.true c.high-item.is hs) (c.loop-high.invariant s l hs a)
