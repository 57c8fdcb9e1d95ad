use Rattle.std.proofs.Common.{◌≡◌, drop}
use Rattle.hs_core.specs.Tests.{code_fits}
use Rattle.hs_core.proofs.sound.code_fits.Given as goal

abbrev pub invariant-loop-i : goal.invariant-loop-i
invariant-loop-i l = code_fits l.fn.defs l.fn.program l.fn.m 0 l.fn.m.code ≡ code_fits l.fn.defs l.fn.program l.fn.m l.i (drop l.i l.fn.m.code)
