use Rattle.hs_heap.specs.Tests.{atom_alone_fits}
use Rattle.hs_heap.proofs.Fitting.{atom_alone_told}
use Rattle.hs_core.proofs.GivenVars.{equal_tests}
use Rattle.hs_core.proofs.formulas.atom_alone_fits.Goals as goal

pub returns : goal.returns
returns c =
    let told = atom_alone_told c.args.defs.now c.args.a.now in
    equal_tests c.fits.result (atom_alone_fits c.args.defs.now c.args.a.now) (λ h. told.1 (c.fits.ensures.0 h)) (λ h. c.fits.ensures.1 (told.0 h))
