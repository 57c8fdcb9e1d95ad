use Rattle.std.proofs.Common.{◌&&◌, sym, ap, ◌∙◌, subst}
use Rattle.std.specs.List.{list_all}
use Rattle.hs_heap.specs.Sound.{FormulaFits}
use Rattle.hs_heap.specs.Tests.{number_fits, disjunct_fits}
use Rattle.hs_heap.specs.Meaning.{is_in}
use Rattle.hs_heap.proofs.Scopes.{in_scope-Numbered}
use Rattle.hs_heap.proofs.Tells.{Tells}
use Rattle.hs_heap.proofs.Fitting.{formula_alone_told}
use Rattle.hs_heap.proofs.formula.Formula.fits.Goals as goal

pub returns : goal.returns
returns c =
    let is = c.disjuncts_fit.ensures
    ∙ ap (λ scope. list_all (disjunct_fits c.args.defs.now scope c.args.next) c.as_slice.result.now) (in_scope-Numbered c.args.free c.args.next)
    ∙ ap (λ cases. list_all (disjunct_fits c.args.defs.now (λ v. number_fits c.args.next v && is_in v c.args.free.now) c.args.next) cases) c.as_slice.ensures in
    subst (λ b. Tells b (FormulaFits c.args.defs.now c.args.free.now c.args.next c.args.self.now)) (sym is) (formula_alone_told c.args.defs.now c.args.free.now c.args.next c.args.self.now.cases)
