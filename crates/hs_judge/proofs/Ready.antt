-- Sound tables, as tests.
use Rattle.std.proofs.Common.{IsTrue}
use Rattle.hs_heap.specs.declared.definitions.Defs.{Defs}
use Rattle.hs_heap.specs.Sound.{IsSound}
use Rattle.hs_heap.specs.Tests.{defs_fit}
use Rattle.hs_heap.proofs.Soundness.{sound_told}
use Rattle.hs_core.specs.declared.program.Program.{Program}
use Rattle.hs_core.specs.Sound.{IsSoundProgram}
use Rattle.hs_core.specs.Tests.{program_fits}
use Rattle.hs_core.proofs.ProgramTells.{program_told}

pub sound_is : (defs : Defs) → IsTrue (defs_fit defs) → IsSound defs
sound_is defs h = (sound_told defs).0 h

pub sound_test : (defs : Defs) → IsSound defs → IsTrue (defs_fit defs)
sound_test defs h = (sound_told defs).1 h

pub program_is : (defs : Defs) (program : Program) → IsTrue (program_fits defs program) → IsSoundProgram defs program
program_is defs program h = (program_told defs program).0 h

pub program_test : (defs : Defs) (program : Program) → IsSoundProgram defs program → IsTrue (program_fits defs program)
program_test defs program h = (program_told defs program).1 h
