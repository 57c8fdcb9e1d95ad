use Rattle.std.proofs.Common.{◌≡◌, take}
use Rattle.hs_program_rules.specs.Parts.{held_top}
use Rattle.hs_program_parts.proofs.tops.held_top.Given as goal

abbrev pub invariant-loop-slot : goal.invariant-loop-slot
invariant-loop-slot l = l.top ≡ held_top (take l.slot-index l.held)
