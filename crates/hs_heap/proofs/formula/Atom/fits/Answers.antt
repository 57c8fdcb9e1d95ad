use Rattle.std.proofs.Common.{sym, subst}
use Rattle.hs_heap.specs.Sound.{AtomFits}
use Rattle.hs_heap.proofs.Tells.{Tells}
use Rattle.hs_heap.proofs.Fitting.{atom_alone_told}
use Rattle.hs_heap.proofs.formula.Atom.fits.Goals as goal

pub returns : goal.returns
returns c = subst (λ b. Tells b (AtomFits c.args.defs.now c.args.self.now)) (sym c.atom_alone_fits.ensures) (atom_alone_told c.args.defs.now c.args.self.now)
