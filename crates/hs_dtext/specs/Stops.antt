-- Why reading stops, at a line and in the whole.
use Rattle.std.specs.Prelude.{◌≡◌, Result, Ok, Err}
use Rattle.hs_node.specs.declared.derivation.Derivation.{Derivation}
use Rattle.hs_line.specs.declared.fault.Stop.{Stop}
use Rattle.hs_line.specs.declared.fault.Stop.TheVariants as stop
use Rattle.hs_dtext.specs.declared.fault.DTextError.{DTextError}
use Rattle.hs_dtext.specs.declared.fault.DTextError.TheVariants as error
use Rattle.hs_dtext.specs.declared.reading.Reading.{Reading}
use Rattle.hs_dtext.specs.declared.reading.LineError.{LineError}
use Rattle.hs_dtext.specs.declared.reading.LineError.TheVariants.{Version, Forward, Bad, Memory}

abbrev pub line_error : Stop → LineError
line_error (stop.Fault e) = Bad e
line_error stop.Memory = Memory

-- the outcome of a line, with the reading that is left, unless memory runs out
abbrev pub Adds : Result Reading LineError → Result (Unit {0}) LineError → Reading → Type 0
Adds outcome (Ok u) new = outcome ≡ Ok new
Adds outcome (Err (Version v)) new = outcome ≡ Err (Version v)
Adds outcome (Err Forward) new = outcome ≡ Err Forward
Adds outcome (Err (Bad e)) new = outcome ≡ Err (Bad e)
Adds outcome (Err Memory) new = Unit {0}

-- the derivation or the fault, unless memory runs out
abbrev pub Answers : Result Derivation DTextError → Result Derivation DTextError → Type 0
Answers outcome (Ok d) = outcome ≡ Ok d
Answers outcome (Err (error.Version v)) = outcome ≡ Err (error.Version v)
Answers outcome (Err (error.Forward n)) = outcome ≡ Err (error.Forward n)
Answers outcome (Err (error.Line n e)) = outcome ≡ Err (error.Line n e)
Answers outcome (Err error.Memory) = Unit {0}
