use Rattle.std.proofs.Common.{◌≡◌, ◌+◌, take}
use Rattle.hs_proof_lines.specs.Proved.{invariant_subjects}
use Rattle.hs_proof_lines.specs.Growing.{Adds}
use Rattle.hs_proof_lines.proofs.subjects.Prover.write_invariants.Given as goal

abbrev pub invariant-loop-pred : goal.invariant-loop-pred
invariant-loop-pred l = (l.number ≡ l.pred-index + 1)
    × Adds l.self.resolved.now.defs l.self.program.now l.self.limits.now l.self.unshown.now
    (invariant_subjects 1 (take l.pred-index l.self.resolved.now.defs.preds) l.self.resolved.now.pred_names) l.initial.written l.written
