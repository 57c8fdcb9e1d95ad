use Rattle.std.proofs.Common.{[], ◌∷◌, refl, subst}
use Rattle.std.proofs.lemmas.Result.{on_ok_weaker}
use Rattle.hs_proof_lines.specs.Proved.{Subject, invariant_node}
use Rattle.hs_proof_lines.specs.Growing.{IsInvariantAnswer}
use Rattle.hs_proof_lines.proofs.Adding.{shown, open_for}
use Rattle.hs_proof_lines.proofs.subjects.Prover.write_invariant.Goals as goal

pub returns-in_ok-node-in-None : goal.returns-in_ok-node-in-None
returns-in_ok-node-in-None c =
    let follows = subst (IsInvariantAnswer c.args.self.now.resolved.now.defs c.args.pred.now c.args.names.now c.args.self.now.limits.now.atoms) c.in-None.is c.in_ok-why.ensures in
    on_ok_weaker c.push_shown.result
    (λ h. shown c.args.self.now.resolved.now.defs c.args.self.now.program.now c.args.self.now.limits.now c.args.self.now.unshown.now
    (Subject.invariant c.args.number c.args.pred.now c.args.names.now) c.args.written.now _ c.push_invariant.new.nodes (invariant_node c.args.number ∷ []) c.in_ok-node-in-None.node
    c.in_ok-node-in-None.ensures.added c.in_ok-node-in-None.ensures.last h.0 h.1 tt (follows, refl))
    c.push_shown.ensures

pub returns-in_ok-cause_text-in-Some : goal.returns-in_ok-cause_text-in-Some
returns-in_ok-cause_text-in-Some c =
    on_ok_weaker c.push_open.result
    (λ h. open_for c.args.self.now.resolved.now.defs c.args.self.now.program.now c.args.self.now.limits.now c.args.self.now.unshown.now
    (Subject.invariant c.args.number c.args.pred.now c.args.names.now) c.args.written.now _ _
    h.0 h.1 tt (c.in-Some.why, subst (IsInvariantAnswer c.args.self.now.resolved.now.defs c.args.pred.now c.args.names.now c.args.self.now.limits.now.atoms) c.in-Some.is c.in_ok-why.ensures, c.in_ok-cause_text-in-Some.ensures))
    c.push_open.ensures
