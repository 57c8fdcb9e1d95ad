use Rattle.std.proofs.Common.{◌≡◌, Some, IfOk, sym, ap, ◌∙◌, subst}
use Rattle.std.specs.Option.{option_copied}
use Rattle.hs_heap.specs.declared.formula.Of.TheVariants.{Pred}
use Rattle.hs_heap.specs.Meaning.{pred_at}
use Rattle.hs_heap.specs.Instance.{body_of, body_of_pred, body_or_none, instantiated}
use Rattle.hs_heap.specs.Names.{IsReady}
use Rattle.hs_heap.proofs.Bodies.{bodies_fit}
use Rattle.hs_heap.proofs.Instances.{ready}
use Rattle.hs_heap.proofs.instance.put_pred.Goals as goal

pub body_at-requires-clause-ready : goal.body_at-requires-clause-ready
body_at-requires-clause-ready c =
    let found : pred_at c.args.defs.now c.args.pred ≡ Some c.in-Some.found.now = sym c.pred.ensures ∙ ap option_copied c.in-Some.is in
    subst (λ b. IsReady b c.args.root c.args.args.now) (ap (body_or_none body_of_pred) found)
    (ready c.args.defs.now (body_of c.args.defs.now (Pred c.args.pred)) c.args.root c.args.args.now c.args.fresh (bodies_fit c.args.defs.now c.requires.sound (Pred c.args.pred)) c.requires.arguments)

pub returns-in-Some-clause-same : goal.returns-in-Some-clause-same
returns-in-Some-clause-same c =
    let found : pred_at c.args.defs.now c.args.pred ≡ Some c.in-Some.found.now = sym c.pred.ensures ∙ ap option_copied c.in-Some.is in
    subst (λ b. IfOk c.body_at.result (λ r. r.0 ≡ instantiated b c.args.root c.args.args.now c.args.fresh)) (sym (ap (body_or_none body_of_pred) found)) c.body_at.ensures.same
