use Rattle.std.proofs.Common.{◌≡◌, take}
use Rattle.std.specs.String.{string_bytes}
use Rattle.hs_print.specs.Line.{text_of}
use Rattle.hs_print.proofs.report.text.Given as goal

abbrev pub invariant-loop-line : goal.invariant-loop-line
invariant-loop-line l = string_bytes l.out ≡ text_of (take l.line-index l.report)
