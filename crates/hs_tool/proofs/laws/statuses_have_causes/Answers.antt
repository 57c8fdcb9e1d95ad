use Rattle.hs_tool.proofs.Reasons.{report_cause}
use Rattle.hs_tool.proofs.laws.statuses_have_causes.Goals as goal

pub returns : goal.returns
returns c = report_cause
