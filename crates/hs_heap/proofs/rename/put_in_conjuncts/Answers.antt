use Rattle.std.proofs.Common.{◌≡◌, sym, ap, ◌∙◌, subst, get_or, ◌++◌, ◌∷◌, []}
use Rattle.hs_pure.specs.Rename.{renaming, renamed, InRange}
use Rattle.hs_pure.proofs.Lists.{map-take_more}
use Rattle.hs_heap.proofs.rename.put_in_conjuncts.Goals as goal

pub put_names-requires : goal.put_names-requires
put_names-requires c = subst (InRange (renaming c.args.pairs.now)) (sym c.p-item.is) (c.requires c.loop-p.p-index c.p-item.result c.loop-p-test.true)

pub loop-p-preserved : goal.loop-p-preserved
loop-p-preserved c =
    let ρ = renaming c.args.pairs.now in
    let item : c.in_ok-put_names.field-0 ≡ renamed (renaming c.args.pairs.now) (get_or c.args.ps.now c.loop-p.p-index c.p-item.result) =
    c.in_ok-put_names.ensures ∙ ap (renamed ρ) c.p-item.is in
    c.in_ok-push.ensures.ok ∙ (λ j. c.loop-p.invariant j ++ item j ∷ []) ∙ sym (map-take_more (renamed ρ) c.args.ps.now c.loop-p.p-index c.p-item.result c.loop-p-test.true)
