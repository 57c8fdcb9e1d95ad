use Rattle.std.proofs.Common.{sym, subst}
use Rattle.std.specs.List.{All}
use Rattle.hs_pure.specs.Truth.{TrueAt}
use Rattle.hs_pure.proofs.Truths.{true-And}
use Rattle.hs_cooper_forms.proofs.Changes.{ok_map}
use Rattle.hs_equations.proofs.Lists.{All-at}
use Rattle.hs_decide.specs.Asking.{IsAskable}
use Rattle.hs_decide.proofs.Asking.{askable-And}
use Rattle.hs_decide.proofs.facts.+facts.Goals as goal

pub with_all_facts-loop-p-preserved : goal.with_all_facts-loop-p-preserved
with_all_facts-loop-p-preserved t c = (
  λ s h all. c.in_ok-now.ensures.follow s (c.loop-p.invariant.0 s h all) (All-at (TrueAt s) c.args.ps.now c.loop-p.p-index c.p-item.result c.loop-p-test.true c.p-item.is all),
  λ h all. c.in_ok-now.ensures.asked (c.loop-p.invariant.1 h all) (All-at IsAskable c.args.ps.now c.loop-p.p-index c.p-item.result c.loop-p-test.true c.p-item.is all),
)

pub with_facts-returns-in-And-clause-follow : goal.with_facts-returns-in-And-clause-follow
with_facts-returns-in-And-clause-follow t c =
    ok_map c.with_all_facts.result (λ r f s h p. f s h (subst (All (TrueAt s)) (sym c.as_slice.ensures) ((true-And s c.in-And.members).0 (subst (TrueAt s) c.in-And.is p)))) c.with_all_facts.ensures.follow

pub with_facts-returns-in-And-clause-asked : goal.with_facts-returns-in-And-clause-asked
with_facts-returns-in-And-clause-asked t c =
    ok_map c.with_all_facts.result (λ r f h p. f h (subst (All IsAskable) (sym c.as_slice.ensures) (askable-And c.args.p.now c.in-And.members c.in-And.is p))) c.with_all_facts.ensures.asked
