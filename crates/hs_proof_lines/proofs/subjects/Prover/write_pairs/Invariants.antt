use Rattle.std.proofs.Common.{◌≡◌, take}
use Rattle.hs_proof_lines.specs.Proved.{pair_subjects}
use Rattle.hs_proof_lines.specs.Growing.{Adds}
use Rattle.hs_proof_lines.proofs.subjects.Prover.write_pairs.Given as goal

abbrev pub invariant-loop-pair : goal.invariant-loop-pair
invariant-loop-pair l = (l.i ≡ l.pair-index)
    × Adds l.self.resolved.now.defs l.self.program.now l.self.limits.now l.self.unshown.now (pair_subjects l.m 1 (take l.pair-index l.method.pairs)) l.initial.written l.written
