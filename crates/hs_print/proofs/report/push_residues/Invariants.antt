use Rattle.std.proofs.Common.{◌≡◌, ◌++◌, ◌+◌, drop}
use Rattle.std.specs.String.{string_bytes}
use Rattle.hs_print.specs.Line.{residues_text}
use Rattle.hs_print.proofs.report.push_residues.Given as goal

abbrev pub invariant-loop-residue : goal.invariant-loop-residue
invariant-loop-residue l =
    (l.number ≡ l.residue-index + 1)
    × (string_bytes l.out ++ residues_text l.number (drop l.residue-index l.residues) ≡ string_bytes l.initial.out ++ residues_text 1 l.residues)
