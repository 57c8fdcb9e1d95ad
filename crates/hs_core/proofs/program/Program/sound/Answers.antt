use Rattle.std.proofs.Common.{sym, subst}
use Rattle.hs_heap.proofs.Tells.{Tells}
use Rattle.hs_core.specs.Sound.{IsSoundProgram}
use Rattle.hs_core.proofs.ProgramTells.{program_told}
use Rattle.hs_core.proofs.program.Program.sound.Goals as goal

pub returns : goal.returns
returns c = record { exact = subst (λ b. Tells b (IsSoundProgram c.args.defs.now c.args.self.now)) (sym c.program_fits.ensures) (program_told c.args.defs.now c.args.self.now) }
