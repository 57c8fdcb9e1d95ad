use Rattle.std.proofs.lemmas.Result.{IfOk-weaker}
use Rattle.hs_core_lines.specs.Run.{HasRunFault, HasRunCause, AreRunLines}
use Rattle.hs_tool.proofs.Replies.{staged_source}
use Rattle.hs_tool.proofs.programs.run_reply.Goals as goal

pub run_lines-requires-clause-sound : goal.run_lines-requires-clause-sound
run_lines-requires-clause-sound c p has =
    let r = c.in-Ok.resolved in
    let is = c.in-Ok.ensures.found in
    c.lowered_programs_are_sound.ensures r p (c.sources_are_lowerable.ensures 64 c.args.bytes.now is.read.tokens is.tree r is.read.spelled is.read.normal) has

pub returns-in-Ok : goal.returns-in-Ok
returns-in-Ok c =
    let r = c.in-Ok.resolved in
    let name = c.args.method.now in
    let text = c.args.text.now in
    IfOk-weaker c.reply_of.result _ _
    (λ reply same. staged_source (λ s cause. HasRunFault s name text cause) (λ s lines. AreRunLines s name text c.args.steps lines) (HasRunCause r name text) c.args.bytes.now r
    c.in-Ok.ensures.found (λ cause h. h) c.run_lines.result c.run_lines.ensures.lines c.run_lines.ensures.cause reply same) c.reply_of.ensures
