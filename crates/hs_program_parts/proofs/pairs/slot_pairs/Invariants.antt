use Rattle.std.proofs.Common.{◌≡◌}
use Rattle.hs_program_parts.specs.Pairs.{slots_below}
use Rattle.hs_program_parts.proofs.pairs.slot_pairs.Given as goal

abbrev pub invariant-loop-i : goal.invariant-loop-i
invariant-loop-i l = l.pairs ≡ slots_below l.held l.i
