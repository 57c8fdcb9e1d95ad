use Rattle.std.proofs.Common.{◌≡◌, Some, IfOk, sym, ap, ◌∙◌, subst}
use Rattle.std.specs.Option.{option_copied}
use Rattle.hs_heap.specs.Instance.{body_of_lemma, body_or_none, lemma_at, instantiated}
use Rattle.hs_heap.specs.Names.{IsReady}
use Rattle.hs_heap.proofs.Bodies.{lemmas_fit}
use Rattle.hs_heap.proofs.Instances.{ready}
use Rattle.hs_heap.proofs.instance.put_lemma.Goals as goal

pub right_at-requires-clause-ready : goal.right_at-requires-clause-ready
right_at-requires-clause-ready c =
    let found : lemma_at c.args.defs.now c.args.lemma ≡ Some c.in-Some.found.now = sym c.lemma.ensures ∙ ap option_copied c.in-Some.is in
    subst (λ b. IsReady b c.args.root c.args.args.now) (ap (body_or_none body_of_lemma) found)
    (ready c.args.defs.now (body_or_none body_of_lemma (lemma_at c.args.defs.now c.args.lemma)) c.args.root c.args.args.now c.args.fresh (lemmas_fit c.args.defs.now c.requires.sound c.args.lemma) c.requires.arguments)

pub returns-in-Some-clause-same : goal.returns-in-Some-clause-same
returns-in-Some-clause-same c =
    let found : lemma_at c.args.defs.now c.args.lemma ≡ Some c.in-Some.found.now = sym c.lemma.ensures ∙ ap option_copied c.in-Some.is in
    subst (λ b. IfOk c.right_at.result (λ r. r.0 ≡ instantiated b c.args.root c.args.args.now c.args.fresh)) (sym (ap (body_or_none body_of_lemma) found)) c.right_at.ensures.same
