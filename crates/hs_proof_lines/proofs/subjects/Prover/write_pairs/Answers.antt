use Rattle.std.proofs.Common.{◌≡◌, ◌+◌, ◌<◌, [], ◌∷◌, List, length, get_or, take, subst, ap}
use Rattle.hs_norm_item.specs.declared.forms.PairTree.{PairTree}
use Rattle.hs_proof_lines.specs.Proved.{Subject, pair_subjects}
use Rattle.hs_proof_lines.proofs.Adding.{then}
use Rattle.hs_proof_lines.proofs.Listing.{pairs_more}
use Rattle.hs_proof_lines.proofs.subjects.Prover.write_pairs.Goals as goal

pub loop-pair-preserved : goal.loop-pair-preserved
loop-pair-preserved c =
    let ps = c.args.method.now.pairs in
    let here = c.as_slice-pair-items.ensures in
    let p = c.pair-item.result in
    let i = c.loop-pair.pair-index in
    let below = subst (λ (xs : List PairTree). i < length xs) here c.loop-pair-test.true in
    let at = subst (λ (xs : List PairTree). p ≡ get_or xs i p) here c.pair-item.is in
    let number : c.loop-pair.i + 1 ≡ i + 1 = ap (λ k. k + 1) c.loop-pair.invariant.0 in (
      number,
      then c.args.self.now.resolved.now.defs c.args.self.now.program.now c.args.self.now.limits.now c.args.self.now.unshown.now
          (pair_subjects c.args.m 1 (take i ps)) (Subject.pair c.args.m (c.loop-pair.i + 1) p ∷ []) (pair_subjects c.args.m 1 (take (i + 1) ps)) _ _ _
          c.loop-pair.invariant.1 c.in_ok-write_pair.ensures (pairs_more c.args.m ps i (c.loop-pair.i + 1) p below at number),
    )
