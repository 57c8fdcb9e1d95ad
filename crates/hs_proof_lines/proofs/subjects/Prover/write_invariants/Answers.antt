use Rattle.std.proofs.Common.{rules, Some, None, ◌≡◌, ◌+◌, ◌<◌, [], ◌∷◌, List, length, get_or, take, subst, arith}
use Rattle.hs_heap.specs.declared.definitions.PredDef.{PredDef}
use Rattle.hs_judge.specs.Named.{item_at}
use Rattle.hs_proof_lines.specs.Proved.{Subject, invariant_subjects}
use Rattle.hs_proof_lines.proofs.Adding.{then}
use Rattle.hs_proof_lines.proofs.Listing.{invariants_more}
use Rattle.hs_proof_lines.proofs.Standing.{told_at, line_there, pred_there, name_there}
use Rattle.hs_proof_lines.proofs.subjects.Prover.write_invariants.Goals as goal

pub unreachable-requires : goal.unreachable-requires
unreachable-requires c =
    let r = c.args.self.now.resolved.now in
    let below = subst (λ (xs : List PredDef). c.loop-pred.pred-index < length xs) c.as_slice-pred-items.ensures c.loop-pred-test.true in
    let none : item_at c.args.lines.now c.loop-pred.number ≡ None = search rules in
    line_there r c.args.self.now.limits.now.atoms c.args.lines.now c.loop-pred.pred-index c.loop-pred.number c.requires.told below c.loop-pred.invariant.0 none

pub write_numbered-requires-clause-there : goal.write_numbered-requires-clause-there
write_numbered-requires-clause-there c =
    let r = c.args.self.now.resolved.now in
    let here = c.as_slice-pred-items.ensures in
    let p = c.pred-item.result in
    let i = c.loop-pred.pred-index in
    let below = subst (λ (xs : List PredDef). i < length xs) here c.loop-pred-test.true in
    let at = subst (λ (xs : List PredDef). p ≡ get_or xs i p) here c.pred-item.is in
    pred_there r.defs i c.loop-pred.number p below at c.loop-pred.invariant.0

pub write_numbered-requires-clause-told : goal.write_numbered-requires-clause-told
write_numbered-requires-clause-told c =
    let r = c.args.self.now.resolved.now in
    let read : item_at c.args.lines.now c.loop-pred.number ≡ Some c.in-Some.line.now = search rules in
    told_at r c.args.self.now.limits.now.atoms c.args.lines.now c.loop-pred.pred-index c.loop-pred.number c.in-Some.line.now c.requires.told read c.loop-pred.invariant.0

pub loop-pred-preserved : goal.loop-pred-preserved
loop-pred-preserved c =
    let r = c.args.self.now.resolved.now in
    let here = c.as_slice-pred-items.ensures in
    let p = c.pred-item.result in
    let i = c.loop-pred.pred-index in
    let below = subst (λ (xs : List PredDef). i < length xs) here c.loop-pred-test.true in
    let at = subst (λ (xs : List PredDef). p ≡ get_or xs i p) here c.pred-item.is in
    let read : item_at c.args.lines.now c.loop-pred.number ≡ Some c.in-Some.line.now = search rules in
    let told = told_at r c.args.self.now.limits.now.atoms c.args.lines.now i c.loop-pred.number c.in-Some.line.now c.requires.told read c.loop-pred.invariant.0 in (
      omega (arith, c.loop-pred.invariant.0),
      then r.defs c.args.self.now.program.now c.args.self.now.limits.now c.args.self.now.unshown.now
          (invariant_subjects 1 (take i r.defs.preds) r.pred_names) (Subject.invariant c.loop-pred.number p told.names ∷ []) (invariant_subjects 1 (take (i + 1) r.defs.preds) r.pred_names) _ _ _
          c.loop-pred.invariant.1 (c.in_ok-write_numbered.ensures told.names told.named)
          (invariants_more r.defs.preds r.pred_names i c.loop-pred.number p told.names below at c.loop-pred.invariant.0 (name_there r.pred_names i c.loop-pred.number told.names told.named c.loop-pred.invariant.0)),
    )
