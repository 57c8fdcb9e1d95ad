use Rattle.std.proofs.Common.{refl, ap, ◌∙◌}
use Rattle.hs_heap.specs.Tests.{lemma_parts_fit, is_head}
use Rattle.hs_heap.proofs.Scopes.{in_scope-head}
use Rattle.hs_heap.proofs.sound.lemma_fits.Goals as goal

pub returns : goal.returns
returns c =
    c.lemma_parts_fit.ensures
    ∙ ap (λ free. lemma_parts_fit c.args.defs.now c.args.l.now free) (in_scope-head c.as_slice.result _ refl)
    ∙ ap (λ ps. lemma_parts_fit c.args.defs.now c.args.l.now (is_head ps)) c.as_slice.ensures
