use Rattle.std.proofs.Common.{◌∙◌, ◌^◌, min, ap, arith}
use Rattle.hs_bag_parts.proofs.Together.{compounds-And, compounds-Or, more_compounds}
use Rattle.hs_bag_parts.proofs.reading.+compounds.Goals as goal

pub count_compounds-returns-in-And : goal.count_compounds-returns-in-And
count_compounds-returns-in-And t c = (rw c.as_slice.ensures at c.count_all_compounds.ensures) ∙ ap (λ n. min n (2 ^ 31)) (compounds-And c.args.p.now c.in-And.ps c.in-And.is)

pub count_compounds-returns-in-Or : goal.count_compounds-returns-in-Or
count_compounds-returns-in-Or t c = (rw c.as_slice-in-Or.ensures at c.count_all_compounds-in-Or.ensures) ∙ ap (λ n. min n (2 ^ 31)) (compounds-Or c.args.p.now c.in-Or.ps c.in-Or.is)

pub count_all_compounds-loop-p-preserved : goal.count_all_compounds-loop-p-preserved
count_all_compounds-loop-p-preserved t c =
    let more = more_compounds c.args.ps.now c.loop-p.p-index c.p-item.result c.loop-p-test.true c.p-item.is in
    record { small = omega arith; is = omega (arith, more) }
