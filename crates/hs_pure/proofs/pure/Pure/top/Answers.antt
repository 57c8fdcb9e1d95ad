use Rattle.std.proofs.Common.{◌<◌, ◌≤◌, ◌≡◌, IsTrue, sym, subst}
use Rattle.hs_pure.specs.declared.var.Var.{Var}
use Rattle.hs_pure.specs.Occurs.{occurs}
use Rattle.hs_pure.proofs.Tops.{occurs-below_top, top-reached}
use Rattle.hs_pure.proofs.pure.Pure.top.Goals as goal

pub returns-clause-bound : goal.returns-clause-bound
returns-clause-bound c = λ v h. subst (λ n. v.number ≤ n) (sym c.greatest.ensures) (occurs-below_top c.args.self.now v h)

pub returns-clause-reached : goal.returns-clause-reached
returns-clause-reached c =
    subst (λ n. 0 < n → (v : Var) × (IsTrue (occurs v c.args.self.now) × (v.number ≡ n))) (sym c.greatest.ensures) (top-reached c.args.self.now)
