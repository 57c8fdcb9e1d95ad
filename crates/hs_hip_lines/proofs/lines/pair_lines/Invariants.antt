use Rattle.hs_hip_lines.proofs.Telling.{TellingMethods}
use Rattle.hs_hip_lines.proofs.lines.pair_lines.Given as goal

abbrev pub invariant-loop-method : goal.invariant-loop-method
invariant-loop-method l = TellingMethods l.defs l.program l.limits l.unshown l.methods l.lines.items l.method-index l.m
