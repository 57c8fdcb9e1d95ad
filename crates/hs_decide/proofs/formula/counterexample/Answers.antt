use Rattle.std.proofs.Common.{◌≡◌, [], ◌∷◌, ◌++◌, ap, ◌∙◌}
use Rattle.hs_pure.specs.declared.pure.Pure.TheVariants as pure_of
use Rattle.hs_pure.specs.Assertion.{assertion_of, both, pure_level}
use Rattle.hs_pure.proofs.Views.{fold-And, fold-Not}
use Rattle.hs_decide.proofs.formula.counterexample.Goals as goal

pub returns : goal.returns
returns c =
    let a = c.args.a.now in
    let b = c.args.b.now in
    let members : c.push-2.new.self ≡ c.args.a.now ∷ pure_of.Not c.args.b.now ∷ [] =
    c.in_ok-push-2.ensures.ok
    ∙ ap (λ ps. ps ++ pure_of.Not c.in_ok-denied.denied ∷ []) (c.in_ok-push.ensures.ok ∙ ap (λ ps. ps ++ c.in_ok-copy-2.field-0 ∷ []) c.new-members.ensures)
    ∙ (λ j. c.in_ok-copy-2.ensures j ∷ pure_of.Not ((c.in_ok-denied.ensures ∙ c.in_ok-copy.ensures) j) ∷ []) in
    ap assertion_of (c.in_ok-new.ensures) ∙ ap (λ ps. assertion_of (pure_of.And ps)) members ∙ fold-And pure_level (a ∷ pure_of.Not b ∷ []) ∙ (λ j. both (assertion_of a) (fold-Not pure_level b j))
