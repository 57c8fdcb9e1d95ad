use Rattle.std.proofs.Common.{◌≡◌, ◌++◌, drop}
use Rattle.std.specs.List.{flat_map}
use Rattle.std.specs.String.{string_bytes}
use Rattle.hs_print.specs.Line.{tried_text}
use Rattle.hs_print.proofs.report.push_causes.Given as goal

abbrev pub invariant-loop-cause : goal.invariant-loop-cause
invariant-loop-cause l =
    string_bytes l.out ++ flat_map tried_text (drop l.cause-index l.causes) ≡ string_bytes l.initial.out ++ flat_map tried_text l.causes
