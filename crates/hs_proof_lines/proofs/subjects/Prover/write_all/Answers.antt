use Rattle.std.proofs.Common.{◌++◌, map, refl}
use Rattle.std.proofs.lemmas.Result.{on_ok_weaker}
use Rattle.hs_proof_lines.specs.Proved.{Subject, invariant_subjects, method_subjects, subjects_of}
use Rattle.hs_proof_lines.proofs.Adding.{then}
use Rattle.hs_proof_lines.proofs.subjects.Prover.write_all.Goals as goal

pub returns : goal.returns
returns c =
    let r = c.args.self.now.resolved.now in
    let invariants = invariant_subjects 1 r.defs.preds r.pred_names in
    let entailments = map Subject.entailment r.entailments in
    let pairs = method_subjects 1 r.methods in
    on_ok_weaker c.write_methods.result
    (λ last. then r.defs c.args.self.now.program.now c.args.self.now.limits.now c.args.self.now.unshown.now (invariants ++ entailments) pairs (subjects_of r) _ _ _
    (then r.defs c.args.self.now.program.now c.args.self.now.limits.now c.args.self.now.unshown.now invariants entailments (invariants ++ entailments) _ _ _
    c.in_ok-write_invariants.ensures c.in_ok-write_entailments.ensures refl) last refl)
    c.write_methods.ensures
