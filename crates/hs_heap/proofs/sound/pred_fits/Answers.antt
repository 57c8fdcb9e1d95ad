use Rattle.std.proofs.Common.{refl, ap, ◌∙◌}
use Rattle.hs_heap.specs.Tests.{pred_parts_fit, is_head}
use Rattle.hs_heap.proofs.Scopes.{in_scope-head}
use Rattle.hs_heap.proofs.sound.pred_fits.Goals as goal

pub returns : goal.returns
returns c =
    c.pred_parts_fit.ensures
    ∙ ap (λ free. pred_parts_fit c.args.defs.now c.args.p.now free) (in_scope-head c.as_slice.result _ refl)
    ∙ ap (λ ps. pred_parts_fit c.args.defs.now c.args.p.now (is_head ps)) c.as_slice.ensures
