use Rattle.std.proofs.Common.{◌≡◌, ◌++◌, drop}
use Rattle.std.specs.Prelude.{codes}
use Rattle.std.specs.String.{string_bytes}
use Rattle.hs_print.specs.Lists.{each_after}
use Rattle.hs_print.specs.Valuation.{assignment_text}
use Rattle.hs_print.proofs.values.push_more_assignments.Given as goal

abbrev pub invariant-loop-x : goal.invariant-loop-x
invariant-loop-x l =
    string_bytes l.out ++ each_after (codes ", ") (assignment_text l.names l.v) (drop l.x-index l.of)
    ≡ string_bytes l.initial.out ++ each_after (codes ", ") (assignment_text l.names l.v) l.of
