use Rattle.std.proofs.Common.{◌≡◌, map, take}
use Rattle.hs_rules.specs.Parts.{replaced}
use Rattle.hs_atom_rules.proofs.bodies.put_left.Given as goal

abbrev pub invariant-loop-case : goal.invariant-loop-case
invariant-loop-case l = l.cases ≡ map (replaced l.l l.side) (take l.case-index l.body.cases)
