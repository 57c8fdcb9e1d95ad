use Rattle.std.proofs.Common.{sym, ap, ◌∙◌, subst}
use Rattle.hs_heap.specs.Variables.{occurs_in_formula, disjuncts_top}
use Rattle.hs_heap.proofs.Tops.{IsTop, disjuncts_is_top}
use Rattle.hs_heap.proofs.formula.Formula.top.Goals as goal

pub returns-clause-bound : goal.returns-clause-bound
returns-clause-bound c = (subst (IsTop (λ v. occurs_in_formula v c.args.self.now)) (sym (c.disjuncts_top.ensures ∙ ap disjuncts_top c.as_slice.ensures)) (disjuncts_is_top c.args.self.now.cases)).bound

pub returns-clause-reached : goal.returns-clause-reached
returns-clause-reached c = (subst (IsTop (λ v. occurs_in_formula v c.args.self.now)) (sym (c.disjuncts_top.ensures ∙ ap disjuncts_top c.as_slice.ensures)) (disjuncts_is_top c.args.self.now.cases)).reached
