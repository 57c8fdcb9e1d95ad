use Rattle.std.proofs.Common.{◌∙◌, min, ap, arith}
use Rattle.hs_bag_parts.proofs.Together.{comparisons-And, comparisons-Or, more_comparisons}
use Rattle.hs_bag_parts.proofs.size.+comparisons.Goals as goal

pub comparisons-returns-in-And : goal.comparisons-returns-in-And
comparisons-returns-in-And t c = (rw c.as_slice.ensures at c.all_comparisons.ensures) ∙ ap (λ n. min n c.args.most) (comparisons-And c.args.p.now c.in-And.ps c.in-And.is)

pub comparisons-returns-in-Or : goal.comparisons-returns-in-Or
comparisons-returns-in-Or t c = (rw c.as_slice-in-Or.ensures at c.all_comparisons-in-Or.ensures) ∙ ap (λ n. min n c.args.most) (comparisons-Or c.args.p.now c.in-Or.ps c.in-Or.is)

pub all_comparisons-loop-p-preserved : goal.all_comparisons-loop-p-preserved
all_comparisons-loop-p-preserved t c =
    let more = more_comparisons c.args.ps.now c.loop-p.p-index c.p-item.result c.loop-p-test.true c.p-item.is in
    record { small = omega arith; is = omega (arith, more) }
