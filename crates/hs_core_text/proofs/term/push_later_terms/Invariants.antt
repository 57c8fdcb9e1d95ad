use Rattle.std.proofs.Common.{◌≡◌, ◌++◌, drop, Some}
use Rattle.std.specs.String.{string_bytes}
use Rattle.hs_print.specs.Linear.{later_terms}
use Rattle.hs_core_text.proofs.term.push_later_terms.Given as goal

abbrev pub invariant-loop-term : goal.invariant-loop-term
invariant-loop-term l =
    string_bytes l.out ++ later_terms (Some l.names) (drop l.term-index l.terms)
    ≡ string_bytes l.initial.out ++ later_terms (Some l.names) l.terms
