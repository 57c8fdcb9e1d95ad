use Rattle.std.proofs.Common.{◌≡◌, take}
use Rattle.hs_program_rules.specs.Parts.{variables_in}
use Rattle.hs_program_parts.proofs.slots.variables.Given as goal

abbrev pub invariant-loop-k : goal.invariant-loop-k
invariant-loop-k l = l.vs ≡ variables_in l.held (take l.k-index l.ks)
