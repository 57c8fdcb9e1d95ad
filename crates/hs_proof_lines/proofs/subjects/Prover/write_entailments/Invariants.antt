use Rattle.std.proofs.Common.{map, take}
use Rattle.hs_proof_lines.specs.Proved.{Subject}
use Rattle.hs_proof_lines.specs.Growing.{Adds}
use Rattle.hs_proof_lines.proofs.subjects.Prover.write_entailments.Given as goal

abbrev pub invariant-loop-e : goal.invariant-loop-e
invariant-loop-e l =
    Adds l.self.resolved.now.defs l.self.program.now l.self.limits.now l.self.unshown.now (map Subject.entailment (take l.e-index l.self.resolved.now.entailments)) l.initial.written l.written
