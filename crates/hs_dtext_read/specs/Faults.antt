-- What faults of a normal form make of a line.
use Rattle.std.specs.Prelude.{Option, Some, None, Ok, Err}
use Rattle.hs_numbering.specs.declared.fault.Fault.{Fault}
use Rattle.hs_norm_formula.specs.Numbered.{error_of}
use Rattle.hs_line.specs.Steps.{Outcome}
use Rattle.hs_dtext.specs.Formulas.{norm_fault}

-- nothing, unless there is a fault
abbrev pub unless_fault : Option Fault → Outcome (Unit {0})
unless_fault None = Ok tt
unless_fault (Some f) = Err (norm_fault (error_of f))
