use Rattle.hs_pure.specs.Truth.{TrueAt}
use Rattle.hs_pure.proofs.Truths.{true-And, true-BagEq}
use Rattle.hs_bag_equations.specs.Placing.{Suits}
use Rattle.hs_bag_equations.proofs.Members.{at_item}
use Rattle.hs_bag_equations.proofs.Suiting.{And-suits, BagEq-suits}
use Rattle.hs_bag_equations.proofs.equations.+collect.Goals as goal
use Rattle.std.proofs.Common.{subst, sym}
use Rattle.std.specs.List.{All}

pub collect-returns-in-And-clause-worth : goal.collect-returns-in-And-clause-worth
collect-returns-in-And-clause-worth t c =
    λ s h w. c.collect_all.ensures.worth s (subst (All (TrueAt s)) (sym c.as_slice.ensures) ((true-And s c.in-And.ps).0 (subst (TrueAt s) c.in-And.is h))) w

pub collect-returns-in-And-clause-suit : goal.collect-returns-in-And-clause-suit
collect-returns-in-And-clause-suit t c =
    λ n h w. c.collect_all.ensures.suit n (subst (All (Suits n)) (sym c.as_slice.ensures) ((And-suits n c.in-And.ps).0 (subst (Suits n) c.in-And.is h))) w

pub collect-returns-in-BagEq : goal.collect-returns-in-BagEq
collect-returns-in-BagEq t c = record {
  worth = λ s h w. c.solve.ensures.worth s ((true-BagEq s c.in-BagEq.a c.in-BagEq.b).0 (subst (TrueAt s) c.in-BagEq.is h)) w;
  suit = λ n h w. let k = BagEq-suits n c.in-BagEq.a c.in-BagEq.b (subst (Suits n) c.in-BagEq.is h) in c.solve.ensures.suit n k.0 k.1 w;
}

pub collect_all-returns-in_err-collect-clause-worth : goal.collect_all-returns-in_err-collect-clause-worth
collect_all-returns-in_err-collect-clause-worth t c =
    λ s h w. c.collect.ensures.worth s (at_item (TrueAt s) c.args.ps.now c.loop-p.p-index c.p-item.result c.loop-p-test.true c.p-item.is h) (c.loop-p.invariant.0 s h w)

pub collect_all-returns-in_err-collect-clause-suit : goal.collect_all-returns-in_err-collect-clause-suit
collect_all-returns-in_err-collect-clause-suit t c =
    λ n h w. c.collect.ensures.suit n (at_item (Suits n) c.args.ps.now c.loop-p.p-index c.p-item.result c.loop-p-test.true c.p-item.is h) (c.loop-p.invariant.1 n h w)

pub collect_all-loop-p-preserved : goal.collect_all-loop-p-preserved
collect_all-loop-p-preserved t c = (
  λ s h w. c.collect.ensures.worth s (at_item (TrueAt s) c.args.ps.now c.loop-p.p-index c.p-item.result c.loop-p-test.true c.p-item.is h) (c.loop-p.invariant.0 s h w),
  λ n h w. c.collect.ensures.suit n (at_item (Suits n) c.args.ps.now c.loop-p.p-index c.p-item.result c.loop-p-test.true c.p-item.is h) (c.loop-p.invariant.1 n h w),
)
