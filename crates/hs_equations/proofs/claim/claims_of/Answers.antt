use Rattle.std.proofs.Common.{◌≡◌, sym, subst, ⊎_elim}
use Rattle.std.specs.List.{Any}
use Rattle.std.proofs.lemmas.List.Quantifiers.{Any-push}
use Rattle.hs_equations.specs.Claims.{truth_at, IsClaimed}
use Rattle.hs_equations.proofs.Literals.{Any-kept, Any-more, Any-whole}
use Rattle.hs_equations.proofs.claim.claims_of.Goals as goal

pub loop-p-preserved : goal.loop-p-preserved
loop-p-preserved c = λ s any.
    subst (Any (IsClaimed s)) (sym c.in_ok-push.ensures.ok)
    (⊎_elim (λ l. Any-kept (IsClaimed s) _ _ (c.loop-p.invariant s l)) (λ p. Any-push (IsClaimed s) _ _ p) (Any-more (λ p. truth_at s p ≡ c.args.expected) c.args.ps.now c.loop-p.p-index c.p-item.result c.loop-p-test.true c.p-item.is any))

pub returns : goal.returns
returns c = λ s any. c.loop-p.invariant s (Any-whole (λ p. truth_at s p ≡ c.args.expected) c.args.ps.now c.loop-p.p-index c.loop-p-test.false any)
