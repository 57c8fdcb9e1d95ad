use Rattle.std.proofs.Common.{◌∙◌, sym, ap, ◌++◌}
use Rattle.hs_numbering.specs.Scope.{named, here}
use Rattle.hs_numbering.proofs.Scopes.{named_push}
use Rattle.hs_numbering.proofs.scope.Scope.push.Goals as goal

pub invariant_of-self-in-Ok : goal.invariant_of-self-in-Ok
invariant_of-self-in-Ok c = λ q.
    c.in-Ok.ensures.added q ∙ (λ i. c.self.invariant q i ++ here q (sym c.in_ok-copy.ensures i) c.args.var)
    ∙ sym (named_push q c.self.inside.list (record { name = c.in_ok-copy.copy; var = c.args.var })) ∙ ap (named q) (sym c.in_ok-push.ensures.ok)
