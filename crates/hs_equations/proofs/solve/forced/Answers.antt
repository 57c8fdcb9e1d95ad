use Rattle.std.proofs.Common.{subst, ⊎_elim}
use Rattle.std.specs.List.{Any}
use Rattle.hs_pure.proofs.Truths.{Any-nil}
use Rattle.hs_equations.specs.Claims.{IsClaimed}
use Rattle.hs_equations.proofs.Lists.{ok-map2}
use Rattle.hs_equations.proofs.Literals.{Any-last}
use Rattle.hs_equations.proofs.solve.forced.Goals as goal

pub returns-in-Some : goal.returns-in-Some
returns-in-Some c = ok-map2 c.forced_by.result (λ r a f s h.
    let p = c.in_ok-split.ensures s h in
    f s p.0 (⊎_elim (λ l. absurd (Any-nil (IsClaimed s) (subst (Any (IsClaimed s)) (c.is_empty.ensures.0 a) l))) (λ x. x) (Any-last (IsClaimed s) _ _ (subst (Any (IsClaimed s)) c.in-Some.ensures p.1)))) c.forced_by.ensures.alone c.forced_by.ensures.holds

pub returns : goal.returns
returns c = λ s h. Any-nil (IsClaimed s) (subst (Any (IsClaimed s)) c.in-None.ensures.0 (c.in_ok-split.ensures s h).1)
