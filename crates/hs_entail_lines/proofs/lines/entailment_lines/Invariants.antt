use Rattle.hs_entail_lines.specs.Lines.{IsEntailmentLine}
use Rattle.hs_entail_lines.proofs.Told.{Telling}
use Rattle.hs_entail_lines.proofs.lines.entailment_lines.Given as goal

abbrev pub invariant-loop-e : goal.invariant-loop-e
invariant-loop-e l = Telling (IsEntailmentLine l.defs l.limits l.unshown) l.entailments l.lines.items l.e-index l.number
