-- What the layers above use of core programs and their faults.
use Rattle.std.specs.Prelude.{◌≡◌, List}
use Rattle.hs_norm.specs.declared.resolved.Resolved.{Resolved}
use Rattle.hs_core.specs.declared.program.Program.{Program}
use Rattle.hs_print.specs.declared.line.Line.{Line}
use Rattle.hs_print.specs.declared.refusal.Refusal.{Refusal}
use Rattle.hs_core_lines.specs.Core.{AreCoreLines, HasLoweringFault, HasProgram}

-- a source has one fault at most
abbrev pub LoweringFaultsAreUnique : Type 0
LoweringFaultsAreUnique = (r : Resolved) (cause other : Refusal) → HasLoweringFault r cause → HasLoweringFault r other → cause ≡ other

-- one with a core program has none
abbrev pub ProgramsHaveNoLoweringFault : Type 0
ProgramsHaveNoLoweringFault = (r : Resolved) (p : Program) (cause : Refusal) → HasProgram r p → HasLoweringFault r cause → ⊥

-- a source has one list of lines at most
abbrev pub CoreLinesAreUnique : Type 0
CoreLinesAreUnique = (r : Resolved) (lines others : List Line) → AreCoreLines r lines → AreCoreLines r others → lines ≡ others
