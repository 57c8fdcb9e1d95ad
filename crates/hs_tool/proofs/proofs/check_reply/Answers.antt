use Rattle.std.proofs.lemmas.Result.{IfOk-weaker}
use Rattle.hs_tool.proofs.Replies.{checked_source}
use Rattle.hs_tool.proofs.proofs.check_reply.Goals as goal

pub returns-in-Ok : goal.returns-in-Ok
returns-in-Ok g c =
    IfOk-weaker c.reply_of.result _ _
    (λ reply same. checked_source c.args.text.now c.args.options c.args.bytes.now _ c.in-Ok.ensures.found c.check_lines.result
    c.check_lines.ensures.lines c.check_lines.ensures.cause reply same) c.reply_of.ensures
