-- The core program of a source, or the refusal of its first fault, and the line of `core`.
use Rattle.std.specs.Prelude.{◌≡◌, List, [], ◌∷◌, Ok, Err}
use Rattle.hs_norm.specs.declared.resolved.Resolved.{Resolved}
use Rattle.hs_core.specs.declared.program.Program.{Program}
use Rattle.hs_core_text.specs.Text.{core_text}
use Rattle.hs_lower.specs.Lowering.{lowered}
use Rattle.hs_lower_faults.specs.declared.error.LowerError.{LowerError}
use Rattle.hs_lower_faults.specs.declared.error.LowerError.TheVariants as fault
use Rattle.hs_print.specs.declared.line.Line.{Line}
use Rattle.hs_print.specs.declared.line.Line.TheVariants.{CoreText}
use Rattle.hs_print.specs.declared.refusal.Refusal.{Refusal}
use Rattle.hs_print.specs.declared.refusal.Refusal.TheVariants as refusal
use Rattle.hs_core_lines.specs.declared.error.CoreError.{CoreError}
use Rattle.hs_core_lines.specs.declared.error.CoreError.TheVariants.{Refused, Memory}

-- the errors of lowering as refusals
abbrev pub of_lowering : LowerError → CoreError
of_lowering (fault.BadType at) = Refused (refusal.BadType at)
of_lowering (fault.Unset at) = Refused (refusal.Unset at)
of_lowering (fault.NoReturn at) = Refused (refusal.NoReturn at)
of_lowering (fault.TooLong at) = Refused (refusal.TooLong at)
of_lowering (fault.RefTwice at) = Refused (refusal.RefTwice at)
of_lowering (fault.ReturnInLoop at) = Refused (refusal.ReturnInLoop at)
of_lowering fault.Memory = Memory

-- the source has this core program
abbrev pub HasProgram : Resolved → Program → Type 0
HasProgram r program = lowered r ≡ Ok program

-- the source has none, and this tells its first fault
abbrev pub HasLoweringFault : Resolved → Refusal → Type 0
HasLoweringFault r cause = (error : LowerError) × (lowered r ≡ Err error) × (of_lowering error ≡ Refused cause)

-- a refusal has its fault; want of memory needs none
abbrev pub HasLoweringCause : Resolved → CoreError → Type 0
HasLoweringCause r (Refused cause) = HasLoweringFault r cause
HasLoweringCause r Memory = Unit {0}

-- the line of `core`: the text of the core program
abbrev pub AreCoreLines : Resolved → List Line → Type 0
AreCoreLines r lines = (program : Program) × HasProgram r program × (lines ≡ CoreText (core_text r.defs program) ∷ [])
