use Rattle.std.proofs.Common.{subst, ap, ◌∙◌}
use Rattle.std.proofs.lemmas.Result.{on_ok_weaker}
use Rattle.hs_goal.specs.declared.goal.Goal.{Goal}
use Rattle.hs_search.specs.Answer.{IsSearchAnswer}
use Rattle.hs_search.specs.declared.answer.SleekAnswer.TheVariants as sleek
use Rattle.hs_print.specs.Line.{why_text}
use Rattle.hs_proof_lines.specs.Proved.{Subject}
use Rattle.hs_proof_lines.proofs.Adding.{shown, open_for}
use Rattle.hs_proof_lines.proofs.Found.{first_found}
use Rattle.hs_proof_lines.proofs.subjects.Prover.search.Goals as goal

pub returns-in-Valid : goal.returns-in-Valid
returns-in-Valid c =
    let defs = c.args.self.now.resolved.now.defs in
    let found = subst (λ (g : Goal). IsSearchAnswer defs c.args.self.now.limits.now g (sleek.Valid c.in-Valid.proofs)) c.in_ok-goal.ensures.exact (subst (IsSearchAnswer defs c.args.self.now.limits.now c.in_ok-goal.goal) c.in-Valid.is c.in_ok-answer.ensures.answer) in
    on_ok_weaker c.push_shown.result
    (λ h. shown defs c.args.self.now.program.now c.args.self.now.limits.now c.args.self.now.unshown.now
    (Subject.entailment c.args.e.now) c.args.written.now _ c.push_proof.new.nodes _ c.in_ok-node-in-Valid.node
    c.in_ok-node-in-Valid.ensures.placed c.in_ok-node-in-Valid.ensures.last h.0 h.1 c.requires.shown
    (first_found defs c.args.self.now.program.now c.args.self.now.limits.now c.args.e.now c.in-Valid.proofs c.remove-proof.result _ found c.remove-proof.ensures.item))
    c.push_shown.ensures

pub returns : goal.returns
returns c =
    let defs = c.args.self.now.resolved.now.defs in
    let found = subst (λ (g : Goal). IsSearchAnswer defs c.args.self.now.limits.now g (sleek.Unknown c.in-Unknown.cause)) c.in_ok-goal.ensures.exact (subst (IsSearchAnswer defs c.args.self.now.limits.now c.in_ok-goal.goal) c.in-Unknown.is c.in_ok-answer.ensures.answer) in
    on_ok_weaker c.push_open.result
    (λ h. open_for defs c.args.self.now.program.now c.args.self.now.limits.now c.args.self.now.unshown.now
    (Subject.entailment c.args.e.now) c.args.written.now _ _
    h.0 h.1 c.requires.shown (c.in-Unknown.cause, found, c.in_ok-cause_text-in-Unknown.ensures ∙ ap why_text c.in_ok-why-in-Unknown.ensures.exact))
    c.push_open.ensures
