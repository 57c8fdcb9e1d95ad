use Rattle.std.proofs.Common.{refl, ap, ◌∙◌}
use Rattle.hs_core.specs.Tests.{is_given, parts_fit}
use Rattle.hs_core.proofs.InScope.{in_scope-given, both_scopes}
use Rattle.hs_core.proofs.sound.given_fit.Goals as goal

pub returns : goal.returns
returns c =
    c.parts_fit.ensures
    ∙ both_scopes c.args.defs.now c.args.p.now _ _ _ _ (in_scope-given c.args.params c.as_slice-logic.result _ refl) (in_scope-given c.args.last c.as_slice-logic.result _ refl)
    ∙ ap (λ vs. parts_fit c.args.defs.now c.args.p.now (is_given c.args.params vs) (is_given c.args.last vs)) c.as_slice-logic.ensures
