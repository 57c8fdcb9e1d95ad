use Rattle.std.proofs.lemmas.Result.{IfOk-weaker}
use Rattle.hs_core_lines.specs.Core.{HasLoweringFault, HasLoweringCause, AreCoreLines}
use Rattle.hs_tool.proofs.Replies.{staged_source}
use Rattle.hs_tool.proofs.programs.core_reply.Goals as goal

pub returns-in-Ok : goal.returns-in-Ok
returns-in-Ok c =
    let r = c.in-Ok.resolved in
    IfOk-weaker c.reply_of.result _ _
    (λ reply same. staged_source HasLoweringFault AreCoreLines (HasLoweringCause r) c.args.bytes.now r c.in-Ok.ensures.found (λ cause h. h)
    c.core_lines.result c.core_lines.ensures.lines c.core_lines.ensures.cause reply same) c.reply_of.ensures
