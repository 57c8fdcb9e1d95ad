-- What the layers above use of a lowered program.
use Rattle.std.specs.Prelude.{◌≡◌, Ok}
use Rattle.hs_norm.specs.declared.resolved.Resolved.{Resolved}
use Rattle.hs_core.specs.declared.program.Program.{Program}
use Rattle.hs_core.specs.Set.{IsSet}
use Rattle.hs_lower.specs.Lowering.{lowered}

-- on each path each slot that is read is a parameter or was written before
abbrev pub LoweredProgramsAreSet : Type 0
LoweredProgramsAreSet = (r : Resolved) (p : Program) → lowered r ≡ Ok p → IsSet p
