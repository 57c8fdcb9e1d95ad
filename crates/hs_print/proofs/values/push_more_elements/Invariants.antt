use Rattle.std.proofs.Common.{◌≡◌, ◌++◌, drop}
use Rattle.std.specs.Prelude.{codes}
use Rattle.std.specs.String.{string_bytes}
use Rattle.hs_print.specs.Lists.{each_after}
use Rattle.hs_print.specs.Valuation.{element_text}
use Rattle.hs_print.proofs.values.push_more_elements.Given as goal

abbrev pub invariant-loop-element : goal.invariant-loop-element
invariant-loop-element l =
    string_bytes l.out ++ each_after (codes ", ") element_text (drop l.element-index l.elements)
    ≡ string_bytes l.initial.out ++ each_after (codes ", ") element_text l.elements
