use Rattle.std.proofs.Common.{◌≡◌, ◌++◌, drop}
use Rattle.std.specs.Prelude.{codes}
use Rattle.std.specs.Option.{option_copied}
use Rattle.std.specs.String.{string_bytes}
use Rattle.hs_print.specs.Lists.{each_after}
use Rattle.hs_print.specs.Formula.{atom_text}
use Rattle.hs_print.proofs.disjunct.push_more_atoms.Given as goal

abbrev pub invariant-loop-atom : goal.invariant-loop-atom
invariant-loop-atom l =
    string_bytes l.out ++ each_after (codes " * ") (atom_text l.defs (option_copied l.names)) (drop l.atom-index l.atoms)
    ≡ string_bytes l.initial.out ++ each_after (codes " * ") (atom_text l.defs (option_copied l.names)) l.atoms
