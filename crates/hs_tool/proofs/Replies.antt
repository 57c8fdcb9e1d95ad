-- Replies as reports.
use Rattle.std.proofs.Common.{◌≡◌, ◌⊎◌, inl, inr, ℕ, ◌≤◌, length, IfSome, List, [], ◌∷◌, Bool, true, false, if◌then◌else◌, Option, Some, None, Result, Ok, Err, IfOk, IfErr, sym, ap, ◌∙◌, subst}
use Rattle.clap.specs.Words.{takes, subcommand_of}
use Rattle.hs_cli.specs.Command.{hipsleek_app}
use Rattle.hs_cli.specs.Job.{job_of}
use Rattle.hs_cli.specs.declared.jobs.Job.{Job}
use Rattle.hs_print.specs.declared.line.Line.{Line}
use Rattle.hs_print.specs.declared.line.Line.TheVariants.{RefusedWords}
use Rattle.hs_norm.specs.declared.resolved.Resolved.{Resolved}
use Rattle.hs_founding.specs.Fault.{HasFoundingFault}
use Rattle.hs_core_lines.specs.declared.error.CoreError.{CoreError}
use Rattle.hs_core_lines.specs.declared.error.CoreError.TheVariants as error
use Rattle.hs_print.specs.declared.refusal.Refusal.{Refusal}
use Rattle.hs_tool.specs.declared.reply.Reply.{Reply}
use Rattle.hs_tool.specs.declared.reply.Reply.TheVariants.{FileFault, Refused, Answered}
use Rattle.hs_io.specs.Files.{bytes_of}
use Rattle.hs_tool.specs.Reply.{Known, HasSource, IsFileReply, IsSourceReply, IsStagedReply, lines_of}
use Rattle.hs_source.specs.Resolved.{IsRefused}
use Rattle.hs_core.specs.declared.program.Program.{Program}
use Rattle.hs_tool.specs.declared.served.Served.{Served}
use Rattle.hs_tool.specs.Served.{HasServingFault, IsClaimsReply}
use Rattle.hs_tool.specs.Sources.{IsFoundedSource, IsServedSource}
use Rattle.hs_tool.specs.Programs.{IsReplyOf}
use Rattle.hs_cli.specs.declared.jobs.Options.{Options}
use Rattle.hs_proof_lines.specs.declared.error.CheckError.{CheckError}
use Rattle.hs_proof_lines.specs.declared.error.CheckError.TheVariants as fault
use Rattle.hs_proof_lines.specs.Checked.{HasTextFault, HasCheckCause, IsCheckReport}
use Rattle.hs_tool.specs.Proofs.{IsCheckReply, IsCheckReplyOf}
use Rattle.hs_tool.specs.Run.{job_named, IsReply, IsReport}

named : (words : List (List ℕ)) (job : Job) → takes hipsleek_app words ≡ true → job_of (subcommand_of hipsleek_app words) ≡ Some job → job_named words ≡ Some job
named words job taken is = ap (λ (b : Bool). if b then job_of (subcommand_of hipsleek_app words) else None) taken ∙ is

unnamed : (words : List (List ℕ)) → takes hipsleek_app words ≡ false → job_named words ≡ None
unnamed words refused = ap (λ (b : Bool). if b then job_of (subcommand_of hipsleek_app words) else None) refused

module _ (known : Known) (before now : ℕ) where
  report_of : (job : Job) (reply : Reply) (report : List Line) → IsReply known before now job reply → report ≡ lines_of reply → IsReport known before now (Some job) report
  unfolding IsReport
  report_of job reply report right is = record { reply = reply; right = right; lines = is }

  no_job : (report : List Line) → report ≡ RefusedWords ∷ [] → IsReport known before now None report
  unfolding IsReport
  no_job report is = is

  pub job_report : (words : List (List ℕ)) (job : Job) (reply : Reply) (report : List Line) → (takes hipsleek_app words ≡ true) × (job_of (subcommand_of hipsleek_app words) ≡ Some job)
      → IsReply known before now job reply → report ≡ lines_of reply → IsReport known before now (job_named words) report
  job_report words job reply report is right lines =
      subst (λ (o : Option Job). IsReport known before now o report) (sym (named words job is.0 is.1)) (report_of job reply report right lines)

  pub words_report : (words : List (List ℕ)) (report : List Line) → takes hipsleek_app words ≡ false → report ≡ RefusedWords ∷ [] → IsReport known before now (job_named words) report
  words_report words report refused lines =
      subst (λ (o : Option Job). IsReport known before now o report) (sym (unnamed words refused)) (no_job report lines)

-- ---- replies to sources

-- the reply to a source whose definitions have no fault
pub on_source : (Is : Resolved → Reply → Type 0) (bytes : List ℕ) (r : Resolved) → IsFoundedSource bytes r → (reply : Reply) → Is r reply → IsSourceReply Is bytes reply
on_source Is bytes r is (FileFault name) right = record { tree = is.tree; resolved = r; read = is.read; is = right }
on_source Is bytes r is (Refused cause) right = inr (record { tree = is.tree; resolved = r; read = is.read; is = right })
on_source Is bytes r is (Answered lines) right = record { tree = is.tree; resolved = r; read = is.read; is = right }

-- the lines of a command that serves all sources, or what keeps the source from having them
pub staged_source : (HasOwnFault : Resolved → Refusal → Type 0) (IsAnswer : Resolved → List Line → Type 0) (HasCause : CoreError → Type 0) (bytes : List ℕ) (r : Resolved)
    → IsFoundedSource bytes r → ((cause : Refusal) → HasCause (error.Refused cause) → HasOwnFault r cause) → (lines : Result (List Line) CoreError) → IfOk lines (IsAnswer r)
    → IfErr lines HasCause → (reply : Reply) → IsReplyOf lines reply → IsSourceReply (IsStagedReply HasFoundingFault HasOwnFault IsAnswer) bytes reply
staged_source HasOwnFault IsAnswer HasCause bytes r is tells (Ok lines) answer cause reply same =
    subst (IsSourceReply (IsStagedReply HasFoundingFault HasOwnFault IsAnswer) bytes) (sym same)
    (on_source (IsStagedReply HasFoundingFault HasOwnFault IsAnswer) bytes r is (Answered lines) (is.faultless, answer))
staged_source HasOwnFault IsAnswer HasCause bytes r is tells (Err (error.Refused refusal)) answer cause reply same =
    subst (IsSourceReply (IsStagedReply HasFoundingFault HasOwnFault IsAnswer) bytes) (sym same)
    (on_source (IsStagedReply HasFoundingFault HasOwnFault IsAnswer) bytes r is (Refused refusal) (inr (is.faultless, tells refusal cause)))
staged_source HasOwnFault IsAnswer HasCause bytes r is tells (Err error.Memory) answer cause reply same = absurd same

-- ---- replies of the commands on claims

module _ (HasOwnFault : Resolved → Program → Refusal → Type 0) (IsAnswer : Resolved → Program → List Line → Type 0) (bytes : List ℕ) where
  pub claims_refused : (cause : Refusal) → IsRefused bytes cause ⊎ HasSource bytes (λ r. HasServingFault r cause) →
      IsSourceReply (IsClaimsReply HasOwnFault IsAnswer) bytes (Refused cause)
  claims_refused cause (inl h) = inl h
  claims_refused cause (inr s) = inr (record { tree = s.tree; resolved = s.resolved; read = s.read; is = inl s.is })

  pub claims_answered : (s : Served) → IsServedSource bytes s → (lines : List Line) → IsAnswer s.resolved s.program lines →
      IsSourceReply (IsClaimsReply HasOwnFault IsAnswer) bytes (Answered lines)
  claims_answered s is lines answer =
      record { tree = is.founded.tree; resolved = s.resolved; read = is.founded.read; is = (s.program, is.served, answer) }

  pub claims_own : (s : Served) → IsServedSource bytes s → (cause : Refusal) → HasOwnFault s.resolved s.program cause →
      IsSourceReply (IsClaimsReply HasOwnFault IsAnswer) bytes (Refused cause)
  claims_own s is cause own =
      inr (record { tree = is.founded.tree; resolved = s.resolved; read = is.founded.read; is = inr (s.program, is.served, own) })

-- the verdict on the text of a derivation, or the first fault of the text
pub checked_source : (text : List ℕ) (options : Options) (bytes : List ℕ) (s : Served) → IsServedSource bytes s → (lines : Result (List Line) CheckError)
    → IfOk lines (IsCheckReport s.resolved s.program options.atoms text) → IfErr lines (HasCheckCause s.resolved text)
    → (reply : Reply) → IsCheckReplyOf lines reply → IsSourceReply (IsCheckReply text options) bytes reply
checked_source text options bytes s is (Ok lines) answer cause reply same =
    subst (IsSourceReply (IsCheckReply text options) bytes) (sym same)
    (claims_answered (λ r p refusal. HasTextFault r text refusal) (λ r p report. IsCheckReport r p options.atoms text report) bytes s is lines answer)
checked_source text options bytes s is (Err (fault.Refused refusal)) answer cause reply same =
    subst (IsSourceReply (IsCheckReply text options) bytes) (sym same)
    (claims_own (λ r p other. HasTextFault r text other) (λ r p report. IsCheckReport r p options.atoms text report) bytes s is refusal cause)
checked_source text options bytes s is (Err fault.Memory) answer cause reply same = absurd same

-- ---- replies of jobs that read two files

module _ {known later_known : Known} {rose later_rose : Type 0} (same : later_known ≡ known) (wider : later_rose → rose) where
  -- what is said of a file that is read later is said of it at the end
  read_later : (limit : ℕ) (name : List ℕ) (Are : List ℕ → Reply → Type 0) (reply : Reply) → IsFileReply known later_rose limit name Are reply → IsFileReply known rose limit name Are reply
  read_later limit name Are (FileFault other) (inl fault) = inl (fault.0, wider fault.1)
  read_later limit name Are (FileFault other) (inr on) = inr on
  read_later limit name Are (Refused cause) h = h
  read_later limit name Are (Answered lines) h = h

  -- the reply to the bytes of the first file and to a second, which is read later
  pub second_file : (first_limit : ℕ) (first : List ℕ) (limit : ℕ) (name : List ℕ) (Are : List ℕ → List ℕ → Reply → Type 0) (bytes : List ℕ)
      → IfSome known (λ files. bytes ≡ bytes_of files first) → length bytes ≤ first_limit
      → (reply : Reply) → IsFileReply later_known later_rose limit name (Are bytes) reply
      → IsFileReply known rose first_limit first (λ source. IsFileReply known rose limit name (Are source)) reply
  second_file first_limit first limit name Are bytes held within reply right =
      go reply (read_later limit name (Are bytes) reply (subst (λ (k : Known). IsFileReply k later_rose limit name (Are bytes) reply) same right))
    where
      go : (reply : Reply) → IsFileReply known rose limit name (Are bytes) reply
          → IsFileReply known rose first_limit first (λ source. IsFileReply known rose limit name (Are source)) reply
      go (FileFault other) on = inr (record { bytes = bytes; held = held; within = within; are = on })
      go (Refused cause) on = inr (record { bytes = bytes; held = held; within = within; are = on })
      go (Answered lines) on = record { bytes = bytes; held = held; within = within; are = on }
