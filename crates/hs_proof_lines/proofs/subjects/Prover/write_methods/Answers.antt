use Rattle.std.proofs.Common.{◌≡◌, ◌+◌, ◌<◌, List, length, get_or, take, subst, ap}
use Rattle.hs_norm.specs.declared.resolved.MethodTree.{MethodTree}
use Rattle.hs_proof_lines.specs.Proved.{pair_subjects, method_subjects}
use Rattle.hs_proof_lines.proofs.Adding.{then}
use Rattle.hs_proof_lines.proofs.Listing.{methods_more}
use Rattle.hs_proof_lines.proofs.Standing.{method_there, pairs_kept}
use Rattle.hs_proof_lines.proofs.subjects.Prover.write_methods.Goals as goal

pub write_pairs-requires-clause-there : goal.write_pairs-requires-clause-there
write_pairs-requires-clause-there c =
    let ms = c.args.self.now.resolved.now.methods in
    let i = c.loop-method.method-index in
    let below = subst (λ (xs : List MethodTree). i < length xs) c.as_slice-method-items.ensures c.loop-method-test.true in
    method_there ms c.args.self.now.program.now i _ c.requires.kept below (ap (λ k. k + 1) c.loop-method.invariant.0)

pub write_pairs-requires-clause-kept : goal.write_pairs-requires-clause-kept
write_pairs-requires-clause-kept c =
    let ms = c.args.self.now.resolved.now.methods in
    let here = c.as_slice-method-items.ensures in
    let q = c.method-item.result in
    let i = c.loop-method.method-index in
    let below = subst (λ (xs : List MethodTree). i < length xs) here c.loop-method-test.true in
    let at = subst (λ (xs : List MethodTree). q ≡ get_or xs i q) here c.method-item.is in
    pairs_kept ms c.args.self.now.program.now i _ q c.requires.kept below at (ap (λ k. k + 1) c.loop-method.invariant.0)

pub loop-method-preserved : goal.loop-method-preserved
loop-method-preserved c =
    let ms = c.args.self.now.resolved.now.methods in
    let here = c.as_slice-method-items.ensures in
    let q = c.method-item.result in
    let i = c.loop-method.method-index in
    let below = subst (λ (xs : List MethodTree). i < length xs) here c.loop-method-test.true in
    let at = subst (λ (xs : List MethodTree). q ≡ get_or xs i q) here c.method-item.is in
    let number : c.loop-method.m + 1 ≡ i + 1 = ap (λ k. k + 1) c.loop-method.invariant.0 in (
      number,
      then c.args.self.now.resolved.now.defs c.args.self.now.program.now c.args.self.now.limits.now c.args.self.now.unshown.now
          (method_subjects 1 (take i ms)) (pair_subjects (c.loop-method.m + 1) 1 q.pairs) (method_subjects 1 (take (i + 1) ms)) _ _ _
          c.loop-method.invariant.1 c.in_ok-write_pairs.ensures (methods_more ms i (c.loop-method.m + 1) q below at number),
    )
