use Rattle.std.proofs.Common.{◌≡◌, ◌+◌, ◌<◌, [], ◌∷◌, List, length, get_or, map, take, subst}
use Rattle.hs_norm_item.specs.declared.forms.Entailment.{Entailment}
use Rattle.hs_proof_lines.specs.Proved.{Subject}
use Rattle.hs_proof_lines.proofs.Adding.{then}
use Rattle.hs_proof_lines.proofs.Listing.{entailments_more}
use Rattle.hs_proof_lines.proofs.subjects.Prover.write_entailments.Goals as goal

pub loop-e-preserved : goal.loop-e-preserved
loop-e-preserved c =
    let es = c.args.self.now.resolved.now.entailments in
    let here = c.as_slice-e-items.ensures in
    let e = c.e-item.result in
    let i = c.loop-e.e-index in
    let below = subst (λ (xs : List Entailment). i < length xs) here c.loop-e-test.true in
    let at = subst (λ (xs : List Entailment). e ≡ get_or xs i e) here c.e-item.is in
    then c.args.self.now.resolved.now.defs c.args.self.now.program.now c.args.self.now.limits.now c.args.self.now.unshown.now
    (map Subject.entailment (take i es)) (Subject.entailment e ∷ []) (map Subject.entailment (take (i + 1) es)) _ _ _
    c.loop-e.invariant c.in_ok-write_entailment.ensures (entailments_more es i e below at)
