use Rattle.std.proofs.Common.{sym, subst}
use Rattle.hs_heap.specs.Variables.{occurs_in_disjunct}
use Rattle.hs_heap.proofs.Tops.{IsTop, disjunct_is_top}
use Rattle.hs_heap.proofs.formula.Disjunct.top.Goals as goal

pub returns-clause-bound : goal.returns-clause-bound
returns-clause-bound c = (subst (IsTop (λ v. occurs_in_disjunct v c.args.self.now)) (sym c.greatest.ensures) (disjunct_is_top c.args.self.now)).bound

pub returns-clause-reached : goal.returns-clause-reached
returns-clause-reached c = (subst (IsTop (λ v. occurs_in_disjunct v c.args.self.now)) (sym c.greatest.ensures) (disjunct_is_top c.args.self.now)).reached
