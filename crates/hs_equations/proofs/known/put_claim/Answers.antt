use Rattle.std.proofs.Common.{sym, ◌∙◌, subst}
use Rattle.std.specs.List.{Any}
use Rattle.std.proofs.lemmas.Bool.{false≢true}
use Rattle.std.proofs.lemmas.List.Quantifiers.{Any-push}
use Rattle.hs_equations.specs.Claims.{IsClaimed}
use Rattle.hs_equations.proofs.Literals.{Any-kept}
use Rattle.hs_equations.proofs.known.put_claim.Goals as goal

pub returns-then-gone-clause-old : goal.returns-then-gone-clause-old
returns-then-gone-clause-old c = λ s any. any

pub returns-then-gone-clause-new : goal.returns-then-gone-clause-new
returns-then-gone-clause-new c = λ f s k. absurd (false≢true (sym f ∙ c.if-gone.true))

pub returns-clause-old : goal.returns-clause-old
returns-clause-old c = λ s any. subst (Any (IsClaimed s)) (sym c.in_ok-push.ensures.ok) (Any-kept (IsClaimed s) _ _ any)

pub returns-clause-new : goal.returns-clause-new
returns-clause-new c = λ f s k. subst (Any (IsClaimed s)) (sym c.in_ok-push.ensures.ok) (Any-push (IsClaimed s) _ _ k)
