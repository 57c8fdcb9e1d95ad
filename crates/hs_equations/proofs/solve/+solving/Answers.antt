use Rattle.std.proofs.Common.{sym, ◌∙◌, subst}
use Rattle.std.specs.List.{Any}
use Rattle.std.proofs.lemmas.List.{take_all}
use Rattle.std.proofs.lemmas.List.Elements.{All-more, All-same}
use Rattle.hs_equations.specs.Rows.{IsMet}
use Rattle.hs_equations.specs.Claims.{IsClaimed, HoldsAll}
use Rattle.hs_equations.specs.declared.claim.Claim.{Claim}
use Rattle.hs_equations.proofs.Lists.{ok-map}
use Rattle.hs_equations.proofs.Literals.{none-any}
use Rattle.hs_equations.proofs.solve.+solving.Goals as goal

pub solve-returns-in-Some-clause-implied : goal.solve-returns-in-Some-clause-implied
solve-returns-in-Some-clause-implied t c = ok-map c.solve_at_rest.result (λ r f is s h. f is s ((rw c.in-Some.is at c.in_ok-rest.ensures) s h)) c.solve_at_rest.ensures.implied

pub solve-returns-in-None-clause-implied : goal.solve-returns-in-None-clause-implied
solve-returns-in-None-clause-implied t c = λ is s h. (rw c.in-None.is at c.in_ok-rest.ensures) s h

pub solve_at_rest-returns-in-None-clause-implied : goal.solve_at_rest-returns-in-None-clause-implied
solve_at_rest-returns-in-None-clause-implied t c = λ is s h. (rw c.in-None.is at c.in_ok-found.ensures) s (All-same (IsMet s) _ _ (c.in_ok-copy.ensures ∙ c.as_slice.ensures) h.0.1)

pub solve_at-returns-then-is_counter-clause-refuted : goal.solve_at-returns-then-is_counter-clause-refuted
solve_at-returns-then-is_counter-clause-refuted t c = c.is_counter.ensures c.if-is_counter.true

pub solve_split-returns-clause-implied : goal.solve_split-returns-clause-implied
solve_split-returns-clause-implied t c = ok-map c.solve_parts.result (λ r f is s h. let p = c.in_ok-split.ensures s h in f is s p.0 (subst (Any (IsClaimed s)) (sym c.as_slice-claims.ensures) p.1)) c.solve_parts.ensures.implied

pub solve_part-returns-clause-implied : goal.solve_part-returns-clause-implied
solve_part-returns-clause-implied t c = ok-map c.solve.result (λ r f is s h k. f is s (c.in_ok-part.ensures s (subst (HoldsAll s) (sym c.in_ok-copy.ensures) h) k)) c.solve.ensures.implied

pub solve_parts-loop-claim-preserved : goal.solve_parts-loop-claim-preserved
solve_parts-loop-claim-preserved t c = λ s h.
    All-more (λ k. ¬ (IsClaimed s k)) c.args.claims.now c.loop-claim.claim-index c.claim-item.result c.loop-claim-test.true (c.loop-claim.invariant s h)
    (subst (λ (k : Claim). ¬ (IsClaimed s k)) c.claim-item.is (c.in_ok-found.ensures.implied c.in-Implied.is s h))

pub solve_parts-returns-in-Refuted-clause-refuted : goal.solve_parts-returns-in-Refuted-clause-refuted
solve_parts-returns-in-Refuted-clause-refuted t c = rw c.in-Refuted.is at c.in_ok-found.ensures.refuted

pub solve_parts-returns-clause-implied : goal.solve_parts-returns-clause-implied
solve_parts-returns-clause-implied t c = λ is s h.
    none-any (IsClaimed s) c.args.claims.now (All-same (λ k. ¬ (IsClaimed s k)) _ _ (sym (take_all c.loop-claim.claim-index c.args.claims.now c.loop-claim-test.false)) (c.loop-claim.invariant s h))
