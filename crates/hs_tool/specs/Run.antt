-- What the whole program answers: one report, written whole or in part.
use Rattle.std.specs.Prelude.{◌≡◌, ◌⊎◌, ℕ, ◌<◌, ◌≤◌, ◌^◌, List, [], ◌∷◌, take, Option, Some, None, if◌then◌else◌}
use Rattle.std.specs.Io.KnownBytes.{Appends}
use Rattle.clap.specs.Words.{takes, subcommand_of}
use Rattle.hs_io.specs.Faults.{Rose}
use Rattle.hs_cli.specs.Command.{hipsleek_app}
use Rattle.hs_cli.specs.Job.{job_of}
use Rattle.hs_cli.specs.declared.jobs.Job.{Job}
use Rattle.hs_cli.specs.declared.jobs.Job.TheVariants.{Sleek, Hip, Prove, Check, Core, Run}
use Rattle.hs_print.specs.Line.{text_of}
use Rattle.hs_print.specs.declared.line.Line.{Line}
use Rattle.hs_print.specs.declared.line.Line.TheVariants.{RefusedWords}
use Rattle.hs_print.specs.declared.refusal.Refusal.{Refusal}
use Rattle.hs_tool.specs.Status.{status_of}
use Rattle.hs_tool.specs.declared.reply.Reply.{Reply}
use Rattle.hs_tool.specs.declared.reply.Reply.TheVariants.{Refused}
use Rattle.hs_tool.specs.Reply.{Known, IsFileReply, IsSourceReply, Says}
use Rattle.hs_tool.specs.Sleek.{IsSleekReply}
use Rattle.hs_tool.specs.Hip.{IsHipReply}
use Rattle.hs_tool.specs.Proofs.{IsProveReply, IsCheckReply}
use Rattle.hs_tool.specs.Programs.{IsCoreReply, IsRunReply}

-- the most bytes that a source or a heap text may have
abbrev pub source_limit : ℕ
source_limit = 2 ^ 20

-- the most bytes that the text of a derivation may have
abbrev pub proof_limit : ℕ
proof_limit = 2 ^ 26

-- the job that the words name, if the command takes them
abbrev pub job_named : List (List ℕ) → Option Job
job_named words = if takes hipsleek_app words then job_of (subcommand_of hipsleek_app words) else None

-- the reply to a job, where the count of files' faults goes from before to now: a case for each command
abbrev pub IsReply : Known → (before now : ℕ) → Job → Reply → Type 0
IsReply known before now (Sleek name options) = IsFileReply known (Rose before now) source_limit name (IsSourceReply (IsSleekReply options))
IsReply known before now (Hip name options) = IsFileReply known (Rose before now) source_limit name (IsSourceReply (IsHipReply options))
IsReply known before now (Prove name options) = IsFileReply known (Rose before now) source_limit name (IsSourceReply (IsProveReply options))
IsReply known before now (Check file proof options) =
    IsFileReply known (Rose before now) source_limit file (λ source. IsFileReply known (Rose before now) proof_limit proof
    (λ text. IsSourceReply (IsCheckReply text options) source))
IsReply known before now (Core name) = IsFileReply known (Rose before now) source_limit name (IsSourceReply IsCoreReply)
IsReply known before now (Run file method heap options) =
    IsFileReply known (Rose before now) source_limit file (λ source. IsFileReply known (Rose before now) source_limit heap
    (λ text. IsSourceReply (IsRunReply method text options.steps) source))

-- the report for a job, or for words that name none
unfoldable pub IsReport : Known → (before now : ℕ) → Option Job → List Line → Type 0
IsReport known before now None report = report ≡ RefusedWords ∷ []
IsReport known before now (Some job) report = Says (IsReply known before now job) report

-- the reply to the job is a refusal
abbrev pub IsRefusable : Known → (before now : ℕ) → Option Job → Type 0
IsRefusable known before now None = ⊥
IsRefusable known before now (Some job) = (cause : Refusal) × IsReply known before now job (Refused cause)

-- ---- what is written

-- a report was written to its end, and its status is answered
pub record Whole (IsRight : List Line → Type 0) (old new : Option (List ℕ)) (answer : ℕ) : Type 0 where
  pub report : List Line
  pub right : IsRight report
  pub written : Appends old new (text_of report)
  pub status : status_of report ≡ answer

-- the front of a report was written
pub record Front (IsRight : List Line → Type 0) (old new : Option (List ℕ)) : Type 0 where
  pub report : List Line
  pub right : IsRight report
  pub count : ℕ
  pub written : Appends old new (take count (text_of report))

-- the run ends with this status: what was written, and why it is this status
pub record Ends (known : Known) (before now : ℕ) (job : Option Job) (sink_before sink_now : ℕ) (old new : Option (List ℕ)) (status : ℕ) : Type 0 where
  -- below 5 the whole report was written, and is right
  pub whole : status < 5 → Whole (IsReport known before now job) old new status
  -- at 5 a front of it was written, and at 6 that or nothing
  pub front : status ≡ 5 → Front (IsReport known before now job) old new
  pub memory : status ≡ 6 → Appends old new [] ⊎ Front (IsReport known before now job) old new
  pub statuses : status ≤ 6
  -- each status but a verdict's has its cause; 6 is want of memory
  pub refused : status ≡ 2 → IsRefusable known before now job
  pub words : status ≡ 3 → job ≡ None
  pub fetch_fault : status ≡ 4 → Rose before now
  pub put_fault : status ≡ 5 → Rose sink_before sink_now
