use Rattle.std.proofs.Common.{◌∙◌, ap}
use Rattle.hs_numbering.specs.Scope.{left, named}
use Rattle.hs_numbering.proofs.Scopes.{named_push, left_push}
use Rattle.hs_numbering.proofs.scope.Scope.pop.Goals as goal

pub invariant_of-self : goal.invariant_of-self
invariant_of-self c = λ q.
    let rest = c.pop.new.self in
    let m = c.in-Some.named in
    c.forget.ensures q ∙ ap (left q m.name) (c.self.invariant q ∙ ap (named q) c.in-Some.ensures ∙ named_push q rest m) ∙ left_push q m.name (named q rest) m.var
