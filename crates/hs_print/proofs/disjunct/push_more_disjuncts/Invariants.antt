use Rattle.std.proofs.Common.{◌≡◌, ◌++◌, drop}
use Rattle.std.specs.Prelude.{codes}
use Rattle.std.specs.Option.{option_copied}
use Rattle.std.specs.String.{string_bytes}
use Rattle.hs_print.specs.Lists.{each_after}
use Rattle.hs_print.specs.Formula.{disjunct_text}
use Rattle.hs_print.proofs.disjunct.push_more_disjuncts.Given as goal

abbrev pub invariant-loop-d : goal.invariant-loop-d
invariant-loop-d l =
    string_bytes l.out ++ each_after (codes " or ") (disjunct_text l.defs (option_copied l.names)) (drop l.d-index l.ds)
    ≡ string_bytes l.initial.out ++ each_after (codes " or ") (disjunct_text l.defs (option_copied l.names)) l.ds
