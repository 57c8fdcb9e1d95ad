use Rattle.std.proofs.Common.{subst}
use Rattle.hs_pure.specs.Assertion.{assertion_of}
use Rattle.hs_pure.specs.Eval.{stack_of, NumbersFit}
use Rattle.hs_pure.specs.Truth.{IsTrueAt}
use Rattle.hs_pure.specs.Answer.{Tells}
use Rattle.hs_pure.proofs.EvalStack.{stack_at-Given, told_ok, told_fits, told_wide}
use Rattle.hs_pure.proofs.pure.Pure.eval.Goals as goal

pub returns-clause-truth : goal.returns-clause-truth
returns-clause-truth c =
    let q = assertion_of c.args.self.now in
    told_ok c.holds.result (NumbersFit (stack_of c.args.v.now) q) (IsTrueAt (stack_of c.args.v.now) q)
    (subst (λ s. Tells c.holds.result (NumbersFit s q) (IsTrueAt s q)) (stack_at-Given c.args.v) c.holds.ensures)

pub returns-clause-fits : goal.returns-clause-fits
returns-clause-fits c =
    let q = assertion_of c.args.self.now in
    told_fits c.holds.result (NumbersFit (stack_of c.args.v.now) q) (IsTrueAt (stack_of c.args.v.now) q)
    (subst (λ s. Tells c.holds.result (NumbersFit s q) (IsTrueAt s q)) (stack_at-Given c.args.v) c.holds.ensures)

pub returns-clause-wide : goal.returns-clause-wide
returns-clause-wide c =
    let q = assertion_of c.args.self.now in
    told_wide c.holds.result (NumbersFit (stack_of c.args.v.now) q) (IsTrueAt (stack_of c.args.v.now) q)
    (subst (λ s. Tells c.holds.result (NumbersFit s q) (IsTrueAt s q)) (stack_at-Given c.args.v) c.holds.ensures)
