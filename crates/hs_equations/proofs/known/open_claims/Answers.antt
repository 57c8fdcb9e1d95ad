use Rattle.std.proofs.Common.{⊎_elim}
use Rattle.hs_equations.specs.Claims.{IsClaimed}
use Rattle.hs_equations.proofs.Lists.{told}
use Rattle.hs_equations.proofs.Literals.{Any-more, Any-whole}
use Rattle.hs_equations.proofs.known.open_claims.Goals as goal

pub loop-c-preserved : goal.loop-c-preserved
loop-c-preserved c = λ s h any.
    ⊎_elim (λ l. c.in_ok-left.ensures.old s (c.loop-c.invariant s h l)) (λ p. ⊎_elim (λ t. absurd (c.in_ok-gone.ensures t s h p)) (λ f. c.in_ok-left.ensures.new f s p) (told c.in_ok-gone.gone)) (Any-more (IsClaimed s) c.args.claims.now c.loop-c.c-index c.c-item.result c.loop-c-test.true c.c-item.is any)

pub returns : goal.returns
returns c = λ s h any. c.loop-c.invariant s h (Any-whole (IsClaimed s) c.args.claims.now c.loop-c.c-index c.loop-c-test.false any)
