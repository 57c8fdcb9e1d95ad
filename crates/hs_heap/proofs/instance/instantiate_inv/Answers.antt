use Rattle.std.proofs.Common.{◌≡◌, ◌↔◌, ℕ, Some, IfOk, map, sym, ap, ◌∙◌, subst}
use Rattle.std.specs.Option.{option_copied}
use Rattle.hs_pure.specs.Stack.{Stack}
use Rattle.hs_pure.specs.Truth.{TrueAt}
use Rattle.hs_pure.specs.declared.pure.Pure.{Pure}
use Rattle.hs_pure.proofs.Lists.{if_ok_weaker}
use Rattle.hs_heap.specs.Meaning.{argument_at, pred_at}
use Rattle.hs_heap.specs.Instance.{ArgumentsFit, BodyFits, body_of_pred, body_of_inv, body_or_none, instantiated_inv, stack_of_body}
use Rattle.hs_heap.proofs.Bodies.{invariants_fit}
use Rattle.hs_heap.proofs.Instances.{ready}
use Rattle.hs_heap.proofs.Satisfied.{instantiated_means_invariant}
use Rattle.hs_heap.proofs.instance.instantiate_inv.Goals as goal

pub inv_at-requires-clause-ready : goal.inv_at-requires-clause-ready
inv_at-requires-clause-ready c =
    let found : pred_at c.args.defs.now c.args.pred ≡ Some c.in-Some.found.now = sym c.pred.ensures ∙ ap option_copied c.in-Some.is in
    ready c.args.defs.now (body_of_inv c.in-Some.found.now) c.args.root c.args.args.now c.args.fresh
    (subst (BodyFits c.args.defs.now) (ap (body_or_none body_of_inv) found) (invariants_fit c.args.defs.now c.requires.sound c.args.pred))
    (subst (λ b. ArgumentsFit b.params c.args.root c.args.args.now c.args.fresh) (ap (body_or_none body_of_pred) found) c.requires.arguments)

pub returns-in-Some-clause-same : goal.returns-in-Some-clause-same
returns-in-Some-clause-same c = λ p e.
    let found : Some c.in-Some.found.now ≡ Some p = sym (sym c.pred.ensures ∙ ap option_copied c.in-Some.is) ∙ e in
    let is : c.in-Some.found.now ≡ p = cc in
    subst (λ p. IfOk c.inv_at.result (λ r. r.0 ≡ instantiated_inv p c.args.root c.args.args.now c.args.fresh)) is c.inv_at.ensures.same

pub returns-in-Some-clause-truth : goal.returns-in-Some-clause-truth
returns-in-Some-clause-truth c = λ p e.
    let found : Some c.in-Some.found.now ≡ Some p = sym (sym c.pred.ensures ∙ ap option_copied c.in-Some.is) ∙ e in
    let is : c.in-Some.found.now ≡ p = cc in
    let same : Pure × ℕ → Type 0 = λ r. r.0 ≡ instantiated_inv p c.args.root c.args.args.now c.args.fresh in
    let alike : Pure × ℕ → Type 0 = λ r. (s : Stack) → TrueAt s r.0 ↔ TrueAt (stack_of_body (body_of_inv p) (s c.args.root).number (map (argument_at s) c.args.args.now)) p.inv in
    if_ok_weaker same alike c.inv_at.result
    (λ r k s. subst (λ f. TrueAt s f ↔ TrueAt (stack_of_body (body_of_inv p) (s c.args.root).number (map (argument_at s) c.args.args.now)) p.inv) (sym k)
    (instantiated_means_invariant c.args.defs.now p c.args.root c.args.args.now c.args.fresh
    (subst (BodyFits c.args.defs.now) (ap (body_or_none body_of_inv) e) (invariants_fit c.args.defs.now c.requires.sound c.args.pred))
    (subst (λ b. ArgumentsFit b.params c.args.root c.args.args.now c.args.fresh) (ap (body_or_none body_of_pred) e) c.requires.arguments) s))
    (subst (λ p. IfOk c.inv_at.result (λ r. r.0 ≡ instantiated_inv p c.args.root c.args.args.now c.args.fresh)) is c.inv_at.ensures.same)
