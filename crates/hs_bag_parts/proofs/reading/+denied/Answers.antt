use Rattle.std.proofs.Common.{◌∙◌, ◌^◌, min, ap, arith}
use Rattle.hs_bag_parts.proofs.Together.{denied-And, denied-Or, more_denied}
use Rattle.hs_bag_parts.proofs.reading.+denied.Goals as goal

pub count_denied-returns-in-And : goal.count_denied-returns-in-And
count_denied-returns-in-And t c = (rw c.as_slice.ensures at c.count_all_denied.ensures) ∙ ap (λ n. min n (2 ^ 31)) (denied-And c.args.asserted c.args.p.now c.in-And.ps c.in-And.is)

pub count_denied-returns-in-Or : goal.count_denied-returns-in-Or
count_denied-returns-in-Or t c = (rw c.as_slice-in-Or.ensures at c.count_all_denied-in-Or.ensures) ∙ ap (λ n. min n (2 ^ 31)) (denied-Or c.args.asserted c.args.p.now c.in-Or.ps c.in-Or.is)

pub count_all_denied-loop-p-preserved : goal.count_all_denied-loop-p-preserved
count_all_denied-loop-p-preserved t c =
    let more = more_denied c.args.asserted c.args.ps.now c.loop-p.p-index c.p-item.result c.loop-p-test.true c.p-item.is in
    record { small = omega arith; is = omega (arith, more) }
