use Rattle.std.proofs.Common.{◌≡◌, take}
use Rattle.std.specs.List.{flat_map}
use Rattle.hs_program_rules.specs.Parts.{conjuncts}
use Rattle.hs_program_parts.proofs.flattening.+flattened.Given as goal

abbrev pub invariant-all_conjuncts-loop-p : goal.invariant-all_conjuncts-loop-p
invariant-all_conjuncts-loop-p l = l.all ≡ flat_map conjuncts (take l.p-index l.ps)
