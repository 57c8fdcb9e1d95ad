use Rattle.std.proofs.Common.{sym, ap, ◌∙◌, subst}
use Rattle.hs_heap.specs.Sound.{DisjunctFits}
use Rattle.hs_heap.specs.Tests.{disjunct_fits}
use Rattle.hs_heap.proofs.Scopes.{in_scope-Numbered}
use Rattle.hs_heap.proofs.Tells.{Tells}
use Rattle.hs_heap.proofs.Fitting.{disjunct_alone_told}
use Rattle.hs_heap.proofs.formula.Disjunct.fits.Goals as goal

pub returns : goal.returns
returns c =
    let is = c.disjunct_fits.ensures ∙ ap (λ scope. disjunct_fits c.args.defs.now scope c.args.next c.args.self.now) (in_scope-Numbered c.args.free c.args.next) in
    subst (λ b. Tells b (DisjunctFits c.args.defs.now c.args.free.now c.args.next c.args.self.now)) (sym is) (disjunct_alone_told c.args.defs.now c.args.free.now c.args.next c.args.self.now)
