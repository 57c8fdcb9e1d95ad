use Rattle.std.proofs.Common.{length, subst}
use Rattle.std.proofs.lemmas.Result.{on_ok_weaker}
use Rattle.hs_proof_lines.specs.Proved.{Subject, moved}
use Rattle.hs_proof_lines.specs.Growing.{IsFound}
use Rattle.hs_proof_lines.proofs.Adding.{shown, open_for}
use Rattle.hs_proof_lines.proofs.Found.{pair_proved, pair_open}
use Rattle.hs_proof_lines.proofs.subjects.Prover.write_found.Goals as goal

pub returns-in_ok-node-in-Proved : goal.returns-in_ok-node-in-Proved
returns-in_ok-node-in-Proved c =
    let defs = c.args.self.now.resolved.now.defs in
    on_ok_weaker c.push_shown.result
    (λ h. shown defs c.args.self.now.program.now c.args.self.now.limits.now c.args.self.now.unshown.now
    (Subject.pair c.args.m c.args.i c.args.pair.now) c.args.written.now _ c.push_moved.new.nodes (moved (length c.args.written.now.nodes) c.in-Proved.own) c.in_ok-node-in-Proved.node
    c.in_ok-node-in-Proved.ensures.moved c.in_ok-node-in-Proved.ensures.last h.0 h.1 c.requires.shown
    (pair_proved defs c.args.self.now.program.now c.args.self.now.limits.now c.args.m c.args.i c.args.pair.now c.in-Proved.own _ (subst (IsFound defs c.args.self.now.program.now c.args.self.now.limits.now c.args.m c.args.i c.args.pair.now) c.in-Proved.is c.in_ok-found.ensures)))
    c.push_shown.ensures

pub returns-in-Open : goal.returns-in-Open
returns-in-Open c =
    let defs = c.args.self.now.resolved.now.defs in
    on_ok_weaker c.push_open.result
    (λ h. open_for defs c.args.self.now.program.now c.args.self.now.limits.now c.args.self.now.unshown.now
    (Subject.pair c.args.m c.args.i c.args.pair.now) c.args.written.now _ c.in-Open.cause
    h.0 h.1 c.requires.shown (pair_open defs c.args.self.now.program.now c.args.self.now.limits.now c.args.m c.args.i c.args.pair.now c.in-Open.cause (subst (IsFound defs c.args.self.now.program.now c.args.self.now.limits.now c.args.m c.args.i c.args.pair.now) c.in-Open.is c.in_ok-found.ensures)))
    c.push_open.ensures
