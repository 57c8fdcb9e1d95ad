use Rattle.std.proofs.Common.{◌≡◌, ◌∙◌, IfOk, ap, subst}
use Rattle.hs_norm_item.specs.Free.{tells}
use Rattle.hs_norm_item.proofs.Freeing.{told_open}
use Rattle.hs_norm_item.proofs.entailments.opens_among.Goals as goal

pub returns : goal.returns
returns c =
    subst (λ xs. IfOk c.opens_by.result (λ all. all ≡ xs))
    (told_open c.args.vars.now c.beyond-count.result c.args.left.now c.args.right.now c.deref.result.now c.deref-2.result.now c.beyond-count.ensures
    (λ v less. ap (tells v) c.deref.ensures.value ∙ c.in_ok-on_left.ensures v less)
    (λ v less. ap (tells v) c.deref-2.ensures.value ∙ c.in_ok-on_right.ensures v less))
    c.opens_by.ensures
