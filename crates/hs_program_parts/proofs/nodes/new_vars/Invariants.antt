use Rattle.std.proofs.Common.{◌≡◌}
use Rattle.hs_core.specs.Sound.{vars_from}
use Rattle.hs_program_parts.proofs.nodes.new_vars.Given as goal

abbrev pub invariant-loop-i : goal.invariant-loop-i
invariant-loop-i l = l.vs ≡ vars_from l.from l.i
