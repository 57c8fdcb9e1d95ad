use Rattle.std.proofs.Common.{map}
use Rattle.std.specs.String.{string_bytes}
use Rattle.hs_tool.proofs.Replies.{job_report, words_report}
use Rattle.hs_tool.proofs.tool.report_for.Goals as goal

pub returns-in_ok-lines-in-Ok : goal.returns-in_ok-lines-in-Ok
returns-in_ok-lines-in-Ok g c =
    job_report _ _ _ (map string_bytes c.args.words.now) _ _ _ c.in-Ok.ensures.job c.in_ok-job_reply-in-Ok.ensures c.in_ok-lines-in-Ok.ensures

pub returns-in_ok-alone-in-Err-Words : goal.returns-in_ok-alone-in-Err-Words
returns-in_ok-alone-in-Err-Words g c =
    words_report _ _ _ (map string_bytes c.args.words.now) _ (c.in-Err-Words.ensures.words (cc)) c.in_ok-alone-in-Err-Words.ensures
