use Rattle.std.proofs.Common.{◌≡◌, map, take}
use Rattle.hs_entail_lines.specs.Lines.{printed_residue}
use Rattle.hs_entail_lines.proofs.lines.printed_residues.Given as goal

abbrev pub invariant-loop-proof : goal.invariant-loop-proof
invariant-loop-proof l = l.texts ≡ map (printed_residue l.defs l.e) (take l.proof-index l.proofs)
