-- What holds of all reports.
use Rattle.std.specs.Prelude.{◌≡◌, ℕ, List, Option, None}
use Rattle.hs_io.specs.Faults.{Rose}
use Rattle.hs_cli.specs.declared.jobs.Job.{Job}
use Rattle.hs_print.specs.declared.line.Line.{Line}
use Rattle.hs_tool.specs.Status.{status_of}
use Rattle.hs_tool.specs.Reply.{Known}
use Rattle.hs_tool.specs.Run.{IsReport, IsRefusable}

-- a report whose status is that of words without a job, of a fault or of a refusal has that cause
pub record HasStatusCause (known : Known) (before now : ℕ) (job : Option Job) (report : List Line) : Type 0 where
  pub words : status_of report ≡ 3 → job ≡ None
  pub fault : status_of report ≡ 4 → Rose before now
  pub refusal : status_of report ≡ 2 → IsRefusable known before now job

-- a right report has the cause of its status
abbrev pub StatusesHaveCauses : Type 0
StatusesHaveCauses = (known : Known) (before now : ℕ) (job : Option Job) (report : List Line)
    → IsReport known before now job report → HasStatusCause known before now job report
