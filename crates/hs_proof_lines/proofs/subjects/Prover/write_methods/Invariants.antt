use Rattle.std.proofs.Common.{◌≡◌, take}
use Rattle.hs_proof_lines.specs.Proved.{method_subjects}
use Rattle.hs_proof_lines.specs.Growing.{Adds}
use Rattle.hs_proof_lines.proofs.subjects.Prover.write_methods.Given as goal

abbrev pub invariant-loop-method : goal.invariant-loop-method
invariant-loop-method l = (l.m ≡ l.method-index)
    × Adds l.self.resolved.now.defs l.self.program.now l.self.limits.now l.self.unshown.now (method_subjects 1 (take l.method-index l.self.resolved.now.methods)) l.initial.written l.written
