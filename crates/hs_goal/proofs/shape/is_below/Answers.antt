use Rattle.std.proofs.Common.{sym, subst}
use Rattle.hs_heap.specs.Variables.{occurs_in_disjunct}
use Rattle.hs_heap.proofs.Tells.{Tells}
use Rattle.hs_goal.specs.Shape.{AreBelow}
use Rattle.hs_goal.proofs.Told.{case_closed_told}
use Rattle.hs_goal.proofs.shape.is_below.Goals as goal

pub returns-then-next-eq0 : goal.returns-then-next-eq0
returns-then-next-eq0 c =
    subst (λ n. Tells c.has_no_variable.result (AreBelow n (λ v. occurs_in_disjunct v c.args.d.now))) (sym c.if-next-eq0.true)
    (subst (λ b. Tells b (AreBelow 0 (λ v. occurs_in_disjunct v c.args.d.now))) (sym c.has_no_variable.ensures) (case_closed_told c.args.d.now))
