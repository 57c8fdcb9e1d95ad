use Rattle.std.proofs.Common.{◌≡◌, ◌++◌, drop}
use Rattle.std.specs.Prelude.{codes}
use Rattle.std.specs.Option.{option_copied}
use Rattle.std.specs.String.{string_bytes}
use Rattle.hs_print.specs.Lists.{each_after}
use Rattle.hs_print.specs.Pure.{member_text}
use Rattle.hs_print.proofs.disjunct.push_conjuncts.Given as goal

abbrev pub invariant-loop-p : goal.invariant-loop-p
invariant-loop-p l =
    string_bytes l.out ++ each_after (codes " & ") (member_text (option_copied l.names)) (drop l.p-index l.ps)
    ≡ string_bytes l.initial.out ++ each_after (codes " & ") (member_text (option_copied l.names)) l.ps
