use Rattle.hs_hip_lines.proofs.Telling.{Telling}
use Rattle.hs_hip_lines.proofs.lines.method_lines.Given as goal

abbrev pub invariant-loop-p : goal.invariant-loop-p
invariant-loop-p l = Telling l.defs l.program l.limits l.unshown l.m l.method.name l.method.pairs l.lines.items l.p-index l.i
