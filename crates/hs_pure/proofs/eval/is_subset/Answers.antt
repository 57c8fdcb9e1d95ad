use Rattle.std.proofs.Common.{ℤ}
use Rattle.hs_pure.specs.Assertion.{bag_term_of}
use Rattle.hs_pure.specs.Values.{stack_at, PairFits}
use Rattle.hs_pure.proofs.EvalBags.{subset_fits, subset_is, tells_err}
use Rattle.hs_pure.proofs.Loops.{and_is}
use Rattle.hs_pure.proofs.eval.is_subset.Goals as goal

pub returns-in_err-first : goal.returns-in_err-first
returns-in_err-first c =
    let parts = subset_fits c.args.values.now (bag_term_of c.args.a.now) (bag_term_of c.args.b.now) in
    tells_err _ _ c.from_residual.result c.from_residual.ensures.0 (λ (h : (x : ℤ) → PairFits (stack_at c.args.values.now) (bag_term_of c.args.a.now) (bag_term_of c.args.b.now) x). c.in_err-first.ensures (parts.1 h).0)

pub returns-in_err-second : goal.returns-in_err-second
returns-in_err-second c =
    let parts = subset_fits c.args.values.now (bag_term_of c.args.a.now) (bag_term_of c.args.b.now) in
    tells_err _ _ c.from_residual-in_err-second.result c.from_residual-in_err-second.ensures.0 (λ (h : (x : ℤ) → PairFits (stack_at c.args.values.now) (bag_term_of c.args.a.now) (bag_term_of c.args.b.now) x). c.in_err-second.ensures (parts.1 h).1)

pub returns : goal.returns
returns c =
    let parts = subset_fits c.args.values.now (bag_term_of c.args.a.now) (bag_term_of c.args.b.now) in
    let fact = subset_is c.args.values.now (bag_term_of c.args.a.now) (bag_term_of c.args.b.now) in
    let first = c.in_ok-first.ensures in
    let second = c.in_ok-second.ensures in
    let both = and_is c.in_ok-first.first c.in_ok-second.second first.1 second.1 in
    (parts.0 (first.0, second.0), (λ t. fact.0 (both.0 t), λ h. both.1 (fact.1 h)))
