use Rattle.std.proofs.Common.{◌≡◌, take, map}
use Rattle.hs_program_rules.specs.Parts.{with_atom}
use Rattle.hs_program_parts.proofs.joining.beside.Given as goal

abbrev pub invariant-loop-d : goal.invariant-loop-d
invariant-loop-d l = l.cases ≡ map (with_atom l.atom) (take l.d-index l.f.cases)
