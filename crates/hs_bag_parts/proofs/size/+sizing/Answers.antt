use Rattle.std.proofs.Common.{◌∙◌, min, sym, ap, arith}
use Rattle.hs_pure.specs.declared.pure.Pure.TheVariants as pure_of
use Rattle.hs_bag_parts.proofs.Bodies.{all_of_capped}
use Rattle.hs_bag_parts.proofs.Together.{reduced-And, reduced-Or, more_reduced}
use Rattle.hs_bag_parts.proofs.size.+sizing.Goals as goal

pub reduced-returns-in-And : goal.reduced-returns-in-And
reduced-returns-in-And t c = (rw c.as_slice.ensures at c.all_reduced.ensures) ∙ ap (λ n. min n c.args.most) (reduced-And c.args.w c.args.asserted c.args.p.now c.in-And.ps c.in-And.is)

pub reduced-returns-in-Or : goal.reduced-returns-in-Or
reduced-returns-in-Or t c = (rw c.as_slice-in-Or.ensures at c.all_reduced-in-Or.ensures) ∙ ap (λ n. min n c.args.most) (reduced-Or c.args.w c.args.asserted c.args.p.now c.in-Or.ps c.in-Or.is)

pub all_reduced-loop-p-preserved : goal.all_reduced-loop-p-preserved
all_reduced-loop-p-preserved t c =
    let more = more_reduced c.args.w c.args.asserted c.args.ps.now c.loop-p.p-index c.p-item.result c.loop-p-test.true c.p-item.is in
    record { small = omega arith; is = omega (arith, more) }

pub reduced-returns-in-AllOf : goal.reduced-returns-in-AllOf
reduced-returns-in-AllOf t c =
    all_of_capped c.args.w c.args.most c.args.asserted c.in-AllOf.field-0 c.in-AllOf.b c.get.result.now c.args.p.now c.comparisons.result c.capped-in-AllOf.result c.stated-in-AllOf.result
    (c.in-AllOf.is ∙ ap (pure_of.AllOf c.in-AllOf.field-0 c.in-AllOf.b) (sym c.get.ensures)) c.comparisons.ensures c.capped-in-AllOf.ensures c.stated-in-AllOf.ensures
